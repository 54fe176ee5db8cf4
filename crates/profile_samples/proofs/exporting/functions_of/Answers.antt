-- The next function, whose id is the place of its name.
use Rattle.std.proofs.Common.{ap, ◌∙◌, take, pos}
use Rattle.std.specs.Int.{w64}
use Rattle.std.proofs.lemmas.Int.{to_z_pos}
use Rattle.profile_samples.specs.Export.{exported_function}
use Rattle.name_counts.proofs.TextNumbers.{next_pushed, next_text}
use Rattle.profile_samples.proofs.ExportLaws.{id_of_place}
use Rattle.profile_samples.proofs.exporting.functions_of.Goals as goal

pub loop-index-preserved : goal.loop-index-preserved
loop-index-preserved c =
    let names = c.args.names.now.texts in
    let index = c.loop-index.index in
    next_pushed (exported_function names c.args.strings.now.texts)
    c.loop-index.functions.items _ (take index names) _ _ _
    c.in_ok-push.ensures.items
    (λ i. record {
      id =
          id_of_place c.texts-name-items.result.now names index c.texts-name-items.ensures c.requires c.loop-index-test.true i;
      name = (to_z_pos w64 c.number_of.result c.number_of.ensures.fits
          ∙ ap pos c.number_of.ensures.number) i;
      system_name = pos 0;
      filename = pos 0;
      start_line = pos 0;
    })
    c.loop-index.invariant
    (next_text c.texts-name-items.result.now names index c.texts-name-items.ensures c.loop-index-test.true)
