use Rattle.std.proofs.Common.{◌≡◌, ◌<◌, All, length, take}
use Rattle.name_counts.specs.TextTables.{names_at}
use Rattle.profile_samples.specs.NameNumbers.{frame_names}
use Rattle.profile_samples.specs.Samples.{frames_of_ids}
use Rattle.profile_samples.proofs.name_numbers.NumberedFrames.numbers_of_ids.Given as goal

-- the frames so far
abbrev pub invariant-loop-id : goal.invariant-loop-id
invariant-loop-id l = All (λ number. number < length (frame_names l.fn.self)) l.numbers.items
    × (names_at (frame_names l.fn.self) l.numbers.items ≡ frames_of_ids l.fn.self (take l.id-index l.ids))
