use Rattle.std.proofs.Common.{take}
use Rattle.profile_samples.specs.CountedSamples.{HaveCounted}
use Rattle.profile_samples.specs.LocationSums.{rows_of_sums}
use Rattle.profile_samples.proofs.counted_samples.count_sums.Given as goal

-- the rows of the lists so far are counted
abbrev pub invariant-loop-index : goal.invariant-loop-index
invariant-loop-index l = HaveCounted l.frames (rows_of_sums l.frames (take l.index l.sums)) l.tallies
