-- The draft of the batch's own names and strings; so it gives the rows back.
use Rattle.std.proofs.Common.{◌≡◌, refl, [], ap, ◌∙◌}
use Rattle.std.proofs.lemmas.List.{length-map}
use Rattle.profile_samples.specs.Export.{exported_profile_of, names_of, pair_of, pairs_of}
use Rattle.name_counts.specs.TextTables.{with_texts}
use Rattle.profile_samples.proofs.ExportedBatches.{export_batch, export_one}
use Rattle.profile_samples.proofs.ExportedRows.{stacks_first}
use Rattle.std.specs.List.{flat_map}
use Rattle.profile_rows.specs.declared.weighted_stacks.WeightedStack.{WeightedStack}
use Rattle.profile_samples.proofs.ExportLaws.{added-AreSingle}
use Rattle.profile_samples.proofs.exporting.profile_of.Goals as goal

pub draft_of-draft-requires : goal.draft_of-draft-requires
draft_of-draft-requires c =
    added-AreSingle _ (flat_map (λ (row : WeightedStack). row.stack) c.rows.result.now) c.in_ok-names.ensures.texts

pub returns-in-Ok : goal.returns-in-Ok
returns-in-Ok c =
    let rows = c.args.batch.now.rows in
    let units = pairs_of c.args.units.now in
    let first = c.rows.ensures.rows ∙ c.first.ensures.first in
    let names : c.in_ok-names.names.texts ≡ names_of rows =
    rw (c.in_ok-names.ensures.texts, first) (ap (with_texts []) (stacks_first rows)) in
    let made : c.in-Ok.profile ≡ exported_profile_of rows units =
    rw (c.in-Ok.ensures.valid.0, c.in_ok-draft.ensures, names) refl in
    let each = rw first at c.in_ok-names.ensures.each in
    let is = c.first.ensures.batch in
    let count = length-map c.args.units.now pair_of ∙ c.requires in
    record {
      profile = made;
      reads_back = rw made (export_batch c.args.batch.now units count is each);
      default = λ one. rw made (export_one c.args.batch.now units count one is each);
    }
