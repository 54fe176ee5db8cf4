use Rattle.std.proofs.Common.{take}
use Rattle.profile_rows.specs.Merging.{AreMergedSoFar}
use Rattle.profile_samples.specs.LocationSums.{rows_of_sums}
use Rattle.profile_samples.proofs.merged_samples.stacks_of.Given as goal

-- the rows of the lists so far
abbrev pub invariant-loop-number : goal.invariant-loop-number
invariant-loop-number l = AreMergedSoFar (rows_of_sums l.frames (take l.number l.sums)) l.stacks
