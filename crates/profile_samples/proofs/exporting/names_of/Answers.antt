-- The names of the next row are added, and can be names.
use Rattle.std.proofs.lemmas.Grind.{common_steps}
use Rattle.std.proofs.Common.{arith, ◌≤◌, ◌++◌, ◌∷◌, [], All, ap, length, sym, ◌∙◌, subst, take}
use Rattle.std.proofs.lemmas.List.{take_more}
use Rattle.std.proofs.lemmas.List.Elements.{All-more}
use Rattle.profile_rows.specs.declared.weighted_stacks.WeightedStack.{WeightedStack}
use Rattle.profile_rows.specs.Names.{IsName}
use Rattle.name_counts.proofs.TextNumbers.{with_texts-append}
use Rattle.profile_samples.proofs.exporting.names_of.Goals as goal

pub loop-row-preserved : goal.loop-row-preserved
loop-row-preserved c =
    let before = take c.loop-row.row-index c.args.rows.now in
    let next = take_more c.args.rows.now c.loop-row.row-index c.row-item.result c.loop-row-test.true
    ∙ ap (λ (row : WeightedStack). before ++ row ∷ []) (sym c.row-item.is) in
    let same = c.names.ensures.names in (
      grind (arith, common_steps, with_texts-append, next, same, c.in_ok-add_names.ensures.texts),
      All-more (λ (row : WeightedStack). All IsName row.stack × (length row.stack ≤ 65535))
          c.args.rows.now c.loop-row.row-index c.row-item.result c.loop-row-test.true c.loop-row.invariant.1
          (subst (λ (row : WeightedStack). All IsName row.stack × (length row.stack ≤ 65535)) c.row-item.is
          (subst (All IsName) same c.in_ok-add_names.ensures.each, c.names.ensures.depth)),
    )
