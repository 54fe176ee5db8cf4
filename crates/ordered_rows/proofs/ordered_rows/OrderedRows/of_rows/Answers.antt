-- The rows of an aggregate are in order.
use Rattle.profile_rows.specs.Aggregate.{aggregate_of}
use Rattle.profile_rows.proofs.InOrder.{rows_of-AreWeighty, rows_of-IsAscending}
use Rattle.ordered_rows.specs.SpelledRows.{spelled_rows}
use Rattle.ordered_rows.proofs.ordered_rows.OrderedRows.of_rows.Goals as goal

pub invariant_of-result : goal.invariant_of-result
invariant_of-result c =
    let rows = spelled_rows c.args.rows.items in
    rw c.in_ok-sorted.ensures
    (record { ascending = rows_of-IsAscending (aggregate_of rows); weighty = rows_of-AreWeighty rows })
