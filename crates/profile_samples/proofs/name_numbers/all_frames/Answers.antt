-- The name of the next location's address is put in, where a frame needs it.
use Rattle.std.proofs.lemmas.Grind.{common_steps}
use Rattle.std.proofs.Common.{◌≡◌, ◌+◌, ◌<◌, ◌∷◌, [], ℕ, List, Option, arith, drop, get_or, length, map, refl}
use Rattle.std.specs.Option.{option_map}
use Rattle.std.proofs.lemmas.List.{drop_more}
use Rattle.pprof_profile.specs.declared.messages.Draft.{Draft}
use Rattle.pprof_profile.specs.declared.messages.Location.{Location}
use Rattle.profile_rows.specs.Names.{IsName}
use Rattle.name_counts.specs.TextTables.{number_in, with_texts}
use Rattle.profile_samples.specs.NameNumbers.{address_of, frame_names, given, name_number}
use Rattle.profile_samples.proofs.FrameNumbers.{name_put, named_address, number_kept, texts_all}
use Rattle.profile_samples.proofs.name_numbers.all_frames.Goals as goal

next : (draft : Draft) (names new : List (List ℕ)) (locations : List Location) (at : ℕ) (location : Location)
    (number : Option ℕ) → at < length locations → location ≡ get_or locations at location
    → with_texts names (given (map (address_of draft) (drop at locations))) ≡ frame_names draft
    → new ≡ with_texts names (given (address_of draft location ∷ []))
    → ((more : List (List ℕ)) → number ≡ option_map (number_in (with_texts new more)) (address_of draft location))
    → (with_texts new (given (map (address_of draft) (drop (at + 1) locations))) ≡ frame_names draft)
    × (number ≡ option_map (name_number draft) (address_of draft location))
next draft names new locations at location number lt is before new_is numbered =
    let rest = map (address_of draft) (drop (at + 1) locations) in
    let front = name_put names new [] (frame_names draft) (address_of draft location) rest new_is
    (rw (drop_more locations at location lt, ← is) at before) in
    (front, number_kept new [] (frame_names draft) (address_of draft location) rest number numbered front)

pub numbers_of-requires : goal.numbers_of-requires
numbers_of-requires c = λ needs.
    let named = c.in_ok-name.ensures in
    let added = next c.args.functions.now c.loop-location.names.keys c.number_with.new.names.keys c.args.locations.now
    c.loop-location.location-index c.location-item.result c.in_ok-number_with.field-0 c.loop-location-test.true
    c.location-item.is c.loop-location.invariant.names (rw named at c.in_ok-number_with.ensures.names)
    (rw named at c.in_ok-number_with.ensures.number) in
    rw (c.unwrap_or-address.ensures, added.1, needs) refl

pub loop-location-preserved : goal.loop-location-preserved
loop-location-preserved c =
    let named = c.in_ok-name.ensures in
    let added = next c.args.functions.now c.loop-location.names.keys c.number_with.new.names.keys c.args.locations.now
    c.loop-location.location-index c.location-item.result c.in_ok-number_with.field-0 c.loop-location-test.true
    c.location-item.is c.loop-location.invariant.names (rw named at c.in_ok-number_with.ensures.names)
    (rw named at c.in_ok-number_with.ensures.number) in
    record {
      names = added.0;
      each = rw (c.in_ok-number_with.ensures.names, named) (texts_all IsName c.loop-location.names.keys
          (given (address_of c.args.functions.now c.location-item.result ∷ [])) c.loop-location.invariant.each
          (named_address c.args.functions.now c.location-item.result));
      frames = grind (arith, common_steps);
    }
