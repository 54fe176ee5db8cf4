use Rattle.std.proofs.Common.{◌≡◌, ◌++◌, map}
use Rattle.profile_rows.specs.LentStacks.{lent_row, lent_rows}
use Rattle.profile_rows.proofs.aggregating.batch_of_weights.Given as goal

-- the rows so far, and those of the entries left
abbrev pub invariant-loop-stack : goal.invariant-loop-stack
invariant-loop-stack l = record {
  width : l.batch.width ≡ l.fn.width;
  rows : lent_rows l.fn.weights ≡ l.batch.rows ++ map lent_row l.stack-iterator;
}
