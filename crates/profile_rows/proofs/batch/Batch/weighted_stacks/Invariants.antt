use Rattle.std.proofs.Common.{◌≡◌, take}
use Rattle.profile_rows.specs.Values.{rows_at}
use Rattle.profile_rows.proofs.batch.Batch.weighted_stacks.Given as goal

-- the rows so far
abbrev pub invariant-loop-at : goal.invariant-loop-at
invariant-loop-at l = l.rows ≡ rows_at l.value (take l.at l.self.rows)
