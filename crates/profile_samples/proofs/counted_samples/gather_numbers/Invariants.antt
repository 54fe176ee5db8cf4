use Rattle.std.proofs.Common.{take}
use Rattle.profile_samples.specs.CountedSamples.{AreNumbersOfIds}
use Rattle.profile_samples.proofs.counted_samples.gather_numbers.Given as goal

-- the numbers of the locations so far
abbrev pub invariant-loop-id : goal.invariant-loop-id
invariant-loop-id l = AreNumbersOfIds l.frames (take l.id-index l.ids) l.numbers.items
