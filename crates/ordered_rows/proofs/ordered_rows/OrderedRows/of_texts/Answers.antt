-- The rows of an aggregate are in order.
use Rattle.std.proofs.Common.{sym, ap, ◌∙◌}
use Rattle.profile_rows.specs.Aggregate.{rows_of}
use Rattle.profile_rows.proofs.InOrder.{rows_of-AreWeighty, rows_of-IsAscending}
use Rattle.ordered_rows.proofs.ordered_rows.OrderedRows.of_texts.Goals as goal

pub invariant_of-result : goal.invariant_of-result
invariant_of-result c =
    let (weights, are) = c.requires in
    let is = c.in_ok-of_texts.ensures weights are ∙ ap rows_of (sym are.whole) in
    record {
      ascending = rw (c.in_ok-of_texts.ensures weights are) (rows_of-IsAscending weights);
      weighty = rw is (rows_of-AreWeighty are.rows);
    }

pub returns : goal.returns
returns c = c.in_ok-of_texts.ensures
