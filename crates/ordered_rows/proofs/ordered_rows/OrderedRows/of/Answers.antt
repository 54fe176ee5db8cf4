-- The rows of an aggregate are in order.
use Rattle.profile_rows.specs.Aggregate.{aggregate_of}
use Rattle.profile_rows.proofs.InOrder.{rows_of-AreWeighty, rows_of-IsAscending}
use Rattle.ordered_rows.proofs.ordered_rows.OrderedRows.of.Goals as goal

pub named-requires-clause-ascending : goal.named-requires-clause-ascending
named-requires-clause-ascending c = rw c.in_ok-aggregate_stacks.ensures (rows_of-IsAscending (aggregate_of c.args.rows))

pub named-requires-clause-weighty : goal.named-requires-clause-weighty
named-requires-clause-weighty c = rw c.in_ok-aggregate_stacks.ensures (rows_of-AreWeighty c.args.rows)
