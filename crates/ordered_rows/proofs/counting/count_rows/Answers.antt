-- The rows so far and the next are within the limit of all, and the next row's frames are names.
use Rattle.std.proofs.lemmas.Grind.{common_steps}
use Rattle.std.proofs.lemmas.List.{map-append, take_more}
use Rattle.std.proofs.Common.{arith, ap, refl, sym, subst, ◌≡◌, ◌≢◌, ◌∙◌, ◌+◌, ◌++◌, ◌∷◌, [], All, take}
use Rattle.profile_rows.specs.declared.weighted_stacks.WeightedStack.{WeightedStack}
use Rattle.profile_rows.specs.StackTexts.{TextState}
use Rattle.name_counts.specs.Tallies.{HasCounted}
use Rattle.ordered_rows.specs.SpelledRows.{spelled_row, spelled_rows}
use Rattle.ordered_rows.proofs.SpelledRows.{follows}
use Rattle.ordered_rows.proofs.counting.count_rows.Goals as goal

pub count-requires : goal.count-requires
count-requires c =
    let rows = c.args.rows.now in
    let at = c.loop-row.row-index in
    let row = c.row-item.result in
    let fits = follows rows at row c.loop-row-test.true c.requires.fits in
    let one_line = c.requires.spelled at row c.loop-row-test.true in
    λ k. (
      (refl, (refl, tt)),
      (
        grind (arith, common_steps, fits),
        (
          c.of.ensures.names
              (subst (All (λ byte. byte ≢ 10))
              (sym (c.text.ensures ∙ ap (λ (row : TextState). row.text) c.row-item.is)) one_line.1),
          (spelled_rows (take at rows), c.loop-row.invariant),
        ),
      ),
    )

pub loop-row-preserved : goal.loop-row-preserved
loop-row-preserved c =
    let rows = c.args.rows.now in
    let at = c.loop-row.row-index in
    let before = spelled_rows (take at rows) in
    let this : WeightedStack = record { stack = c.of.result; weight = c.weight.result } in
    let all : before ++ this ∷ [] ≡ spelled_rows (take (at + 1) rows) =
    grind (arith, common_steps, map-append, take_more rows at c.row-item.result c.loop-row-test.true) in
    subst (λ rows. HasCounted rows c.count.new.self) all (c.in_ok-count.ensures before c.loop-row.invariant)
