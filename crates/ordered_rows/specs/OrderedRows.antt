-- Rows in the order of their stacks.
use Rattle.std.specs.Prelude.{List}
use Rattle.profile_rows.specs.declared.weighted_stacks.WeightedStack.{WeightedStack}
use Rattle.profile_rows.specs.Aggregate.{AreWeighty, IsAscending}
use Rattle.ordered_rows.specs.declared.ordered_rows.InOrder.{InOrder}
use Rattle.ordered_rows.specs.declared.ordered_rows.InOrder.TheVariants as order

-- rows in the order of their stacks, each of weight above 0
pub record AreInOrder (rows : List WeightedStack) : Type 0 where
  pub ascending : IsAscending rows
  pub weighty : AreWeighty rows

-- the rows, whichever way their stacks are kept
abbrev pub rows_in : InOrder → List WeightedStack
rows_in (order.Named rows) = rows
rows_in (order.Spelled rows) = rows
