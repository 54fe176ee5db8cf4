use Rattle.std.proofs.Common.{◌≡◌, [], take}
use Rattle.profile_samples.specs.Samples.{frames_of_ids}
use Rattle.profile_samples.proofs.name_numbers.NumberedFrames.leaf_of.Given as goal

-- no frame so far
abbrev pub invariant-loop-id : goal.invariant-loop-id
invariant-loop-id l = frames_of_ids l.fn.self (take l.id-index l.ids) ≡ []
