-- The next name is added.
use Rattle.std.proofs.Common.{◌++◌, ◌∷◌, [], ap, sym, ◌∙◌, subst, take}
use Rattle.std.proofs.lemmas.List.{take_more}
use Rattle.std.proofs.lemmas.List.Elements.{All-more}
use Rattle.profile_rows.specs.Names.{IsName}
use Rattle.name_counts.specs.TextTables.{with_text}
use Rattle.name_counts.proofs.TextNumbers.{next_with}
use Rattle.profile_samples.proofs.exporting.add_names.Goals as goal

pub loop-name-preserved : goal.loop-name-preserved
loop-name-preserved c = (
  next_with
      c.args.table.now.texts c.loop-name.table.texts _ (take c.loop-name.name-index c.args.names.now) _
      c.name-item.result (c.in_ok-add.ensures.texts ∙ ap (with_text c.loop-name.table.texts) c.text.ensures.text)
      c.loop-name.invariant.0
      (take_more c.args.names.now c.loop-name.name-index c.name-item.result c.loop-name-test.true
      ∙ ap (λ name. take c.loop-name.name-index c.args.names.now ++ name ∷ []) (sym c.name-item.is)),
  All-more IsName c.args.names.now c.loop-name.name-index c.name-item.result
      c.loop-name-test.true c.loop-name.invariant.1 (subst IsName c.name-item.is c.text.ensures.name),
)
