use Rattle.std.proofs.Common.{◌≡◌, ◌+◌, take, length}
use Rattle.profile_samples.specs.Samples.{frames_of_ids}
use Rattle.profile_samples.proofs.name_numbers.NumberedFrames.fit_these.Given as goal

-- the room that the frames so far leave
abbrev pub invariant-loop-id : goal.invariant-loop-id
invariant-loop-id l = l.room + length (frames_of_ids l.fn.self (take l.id-index l.ids)) ≡ 65535
