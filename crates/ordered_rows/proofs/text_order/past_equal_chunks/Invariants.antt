use Rattle.std.proofs.Common.{◌≡◌, length}
use Rattle.ordered_rows.specs.StackOrder.{stack_text_cmp}
use Rattle.ordered_rows.proofs.text_order.past_equal_chunks.Given as goal

-- what is left compares as the whole texts do
abbrev pub invariant-loop-chunk : goal.invariant-loop-chunk
invariant-loop-chunk g l = stack_text_cmp l.rest l.others ≡ stack_text_cmp l.left l.right

abbrev pub decreases-loop-chunk : goal.decreases-loop-chunk
decreases-loop-chunk g l = length l.rest
