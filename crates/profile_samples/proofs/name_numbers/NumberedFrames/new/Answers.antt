-- All numbers are of names, and the ids differ.
use Rattle.std.proofs.Common.{rules, ◌≡◌, ◌<◌, ℕ, List, All, sym, length, subst}
use Rattle.std.proofs.lemmas.List.Elements.{All-map}
use Rattle.profile_samples.specs.NameNumbers.{frame_names, numbers_of}
use Rattle.profile_samples.proofs.ItemsById.{ids_differ}
use Rattle.profile_samples.proofs.FrameNumbers.{all_named}
use Rattle.profile_samples.proofs.name_numbers.NumberedFrames.new.Goals as goal

pub all_once-requires : goal.all_once-requires
all_once-requires c =
    let draft = c.draft-draft.result.now in
    let count : c.len.result ≡ length (frame_names draft) = search rules in
    record {
      inside = subst (λ many. All (λ (list : List ℕ). All (λ number. number < many) list)
          c.in_ok-frames.frames) (sym count)
          (subst (All (λ (list : List ℕ). All (λ number. number < length (frame_names draft)) list))
          (sym c.in_ok-frames.ensures.frames)
          (All-map (λ (list : List ℕ). All (λ number. number < length (frame_names draft)) list)
          (numbers_of draft) draft.locations (all_named draft)));
    }

pub invariant_of-result : goal.invariant_of-result
invariant_of-result c =
    let draft = c.draft-draft.result.now in
    let made = c.in_ok-frames.ensures in
    record {
      ids_are = c.in_ok-indices.ensures;
      single = rw c.in_ok-indices.ensures
          (ids_differ draft (rw c.draft-draft.ensures.draft c.draft-draft.ensures.valid)).0;
      frames_are = made.frames;
      once_are = c.in_ok-once.ensures;
      names_are = made.names;
      each = rw made.names at made.each;
    }
