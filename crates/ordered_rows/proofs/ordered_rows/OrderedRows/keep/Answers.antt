-- What is kept of rows in order is in order.
use Rattle.std.proofs.lemmas.Grind.{common_steps}
use Rattle.std.proofs.Common.{arith}
use Rattle.profile_rows.proofs.InOrder.{kept_rows-AreWeighty, kept_rows-IsAscending}
use Rattle.ordered_rows.proofs.ordered_rows.OrderedRows.keep.Goals as goal

pub invariant_of-result : goal.invariant_of-result
invariant_of-result c = grind (arith, common_steps, kept_rows-AreWeighty, kept_rows-IsAscending)
