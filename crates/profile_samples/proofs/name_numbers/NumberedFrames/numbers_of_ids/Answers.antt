-- The frames of the next location, where it is there.
use Rattle.std.proofs.lemmas.Grind.{common_steps}
use Rattle.std.proofs.Common.{◌≡◌, ◌<◌, ◌+◌, ◌++◌, ℕ, List, [], Some, None, All, ap, sym, ◌∙◌, get_or, length}
use Rattle.std.proofs.Common.{append-nil, arith, take}
use Rattle.std.proofs.lemmas.List.Elements.{All-append}
use Rattle.pprof_profile.specs.declared.messages.Draft.{Draft}
use Rattle.name_counts.specs.TextTables.{names_at}
use Rattle.profile_samples.specs.NameNumbers.{frame_names}
use Rattle.profile_samples.specs.Samples.{frames_of_id, frames_of_ids}
use Rattle.profile_samples.proofs.FrameNumbers.{found_numbers, frames-more}
use Rattle.profile_samples.proofs.name_numbers.NumberedFrames.numbers_of_ids.Goals as goal
use Rattle.profile_samples.proofs.name_numbers.NumberedFrames.numbers_of_ids.Goals.{in-Some+in_ok-push_numbers}
use Rattle.profile_samples.proofs.name_numbers.NumberedFrames.numbers_of_ids.Goals.{in_default}

AreNumbers : Draft → List ℕ → List ℕ → Type 0
AreNumbers draft ids numbers = All (λ number. number < length (frame_names draft)) numbers
    × (names_at (frame_names draft) numbers ≡ frames_of_ids draft ids)

-- the numbers with those of one location more
more : (draft : Draft) (ids numbers next here : List ℕ) (i : ℕ) → i < length ids
    → AreNumbers draft (take i ids) numbers → next ≡ numbers ++ here
    → All (λ number. number < length (frame_names draft)) here
    → names_at (frame_names draft) here ≡ frames_of_id draft (get_or ids i 0) → AreNumbers draft (take (i + 1) ids) next
unfolding AreNumbers
more draft ids numbers next here i lt so_far next_is inside here_is = (
  rw next_is (All-append (λ number. number < length (frame_names draft)) numbers here so_far.0 inside),
  grind (arith, common_steps, frames-more, so_far.1, here_is, next_is),
)

pub loop-id-preserved : goal.loop-id-preserved
unfolding AreNumbers
loop-id-preserved c =
    let draft = c.args.self.now in
    let id = get_or c.args.ids.now c.loop-id.id-index 0 in
    elim c.match-frames_of.branch [
      | in-Some+in_ok-push_numbers w ↦
          let this = found_numbers draft id (Some w.in-Some.frames.now) w.in-Some.ensures in
          more draft c.args.ids.now c.loop-id.numbers.items c.match-frames_of.numbers.items w.in-Some.frames.now
          c.loop-id.id-index c.loop-id-test.true c.loop-id.invariant
          (ap (λ numbers. numbers.items) w.numbers-is ∙ w.in_ok-push_numbers.ensures) this.all_inside this.all_are
      | in_default w ↦
          more draft c.args.ids.now c.loop-id.numbers.items c.match-frames_of.numbers.items []
          c.loop-id.id-index c.loop-id-test.true c.loop-id.invariant
          (ap (λ numbers. numbers.items) w.numbers-is ∙ sym (append-nil c.loop-id.numbers.items))
          (λ k d lt. absurd (omega (arith, lt)))
          (sym (found_numbers draft id None w.in_default.ensures))
    ]
