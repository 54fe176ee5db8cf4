use Rattle.std.proofs.Common.{take}
use Rattle.profile_rows.proofs.LentStacks.{HasSums}
use Rattle.profile_rows.proofs.aggregating.aggregate.Given as goal

-- the map has the sums of the rows so far, and where a stack is new there is 0 of each value
abbrev pub invariant-loop-at : goal.invariant-loop-at
invariant-loop-at l = HasSums l.fn.batch.width (take l.at l.fn.batch.rows) l.weights.entries
