-- What the rows of a text weigh by name.
use Rattle.std.proofs.lemmas.Grind.{common_steps}
use Rattle.std.proofs.Common.{arith, List}
use Rattle.profile_rows.specs.declared.weighted_stacks.WeightedStack.{WeightedStack}
use Rattle.profile_rows.specs.declared.frame_totals.FrameTotals.{FrameTotals}
use Rattle.profile_rows.specs.Merging.{AreMergedSoFar}
use Rattle.profile_rows.specs.TopList.{AreTotalsOf}
use Rattle.profile_rows.proofs.EntryLaws.{weight_where-same}
use Rattle.profile_rows.proofs.MergedRows.{AreMergedSoFar-same}

-- what names weigh in rows is what they weigh where some are put together
pub AreTotalsOf-merged : (rows merged : List WeightedStack) (totals : FrameTotals)
    → AreMergedSoFar rows merged → AreTotalsOf merged totals → AreTotalsOf rows totals
AreTotalsOf-merged rows merged totals same these =
    grind (arith, common_steps, weight_where-same, AreMergedSoFar-same)
