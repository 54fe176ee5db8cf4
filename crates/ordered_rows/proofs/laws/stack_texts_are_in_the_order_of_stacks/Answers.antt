use Rattle.ordered_rows.proofs.StackOrder.{joined_texts-cmp}
use Rattle.ordered_rows.proofs.laws.stack_texts_are_in_the_order_of_stacks.Goals as goal

pub returns : goal.returns
returns c = joined_texts-cmp
