-- The next location, whose id is the place of its name.
use Rattle.std.proofs.Common.{ap, ◌+◌, ◌<◌, ◌∙◌, sym, take, false, Bor, ℕ, List, [], ◌∷◌, length, pos, arith}
use Rattle.std.specs.Prelude.{slice_index_or}
use Rattle.std.proofs.lemmas.List.{length-map, take_more}
use Rattle.pprof_profile.specs.declared.messages.Line.{Line}
use Rattle.profile_samples.specs.Export.{exported_location}
use Rattle.name_counts.proofs.TallyLaws.{number_in-own}
use Rattle.name_counts.proofs.TextNumbers.{next_pushed}
use Rattle.profile_samples.proofs.exporting.locations_of.Goals as goal

abbrev line_of : ℕ → List Line
line_of id = record { function_id = id; line = pos 0 } ∷ []

pub loop-index-preserved : goal.loop-index-preserved
loop-index-preserved c =
    let names = c.args.names.now.texts in
    let index = c.loop-index.index in
    let long = length-map c.texts-index-end.result.now (λ (text : Bor (List ℕ)). text.now) in
    let many = ap length c.texts-index-end.ensures in
    let test = c.loop-index-test.true in
    let lt : index < length names = omega (arith, long, many, test) in
    let id = ap (λ number. number + 1) (sym (number_in-own names index c.requires lt)) in
    next_pushed (exported_location names)
    c.loop-index.locations.items _ (take index names) _ (slice_index_or names index []) _
    c.in_ok-push.ensures.items
    (λ i. record {
      id = id i;
      mapping_id = 0;
      address = 0;
      lines = (c.new.ensures ∙ c.in_ok-vec.ensures.items ∙ ap line_of id) i;
      is_folded = false;
    })
    c.loop-index.invariant (take_more names index [] lt)
