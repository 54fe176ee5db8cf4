use Rattle.std.proofs.Common.{List, ◌≡◌}
use Rattle.profile_rows.specs.declared.weighted_stacks.WeightedStack.{WeightedStack}
use Rattle.profile_rows.specs.Merging.{AreMergedSoFar}
use Rattle.profile_samples.specs.LocationSums.{FitStacks, rows_of_sums}
use Rattle.profile_samples.proofs.LocationSums.{lists_of}
use Rattle.profile_samples.proofs.SampleBatches.{AreStacksSoFar}
use Rattle.profile_samples.proofs.merged_samples.sum_samples.Given as goal

-- the samples so far give rows that add up to the sums so far
abbrev pub invariant-loop-index : goal.invariant-loop-index
invariant-loop-index l =
    ((rows : List WeightedStack) × AreStacksSoFar l.draft l.chosen l.index rows
    × AreMergedSoFar rows (rows_of_sums l.draft l.sums))
    × FitStacks l.draft l.sums × (lists_of l.sums ≡ l.samples.lists)
