use Rattle.profile_rows.proofs.PuttingTogether.{IsPuttingTogether}
use Rattle.profile_rows.proofs.summing.put_together.Given as goal

-- the rows so far are put together, and those that are left
abbrev pub invariant-loop-row : goal.invariant-loop-row
invariant-loop-row l = IsPuttingTogether l.fn.sorted.items l.sums l.row-iterator.rest.items
