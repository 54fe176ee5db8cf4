use Rattle.std.proofs.Common.{◌≡◌, length}
use Rattle.ordered_rows.specs.StackOrder.{stack_text_cmp}
use Rattle.ordered_rows.proofs.text_order.cmp_bytes.Given as goal

-- what is left compares as the whole texts do
abbrev pub invariant-loop-byte : goal.invariant-loop-byte
invariant-loop-byte l = stack_text_cmp l.rest l.others ≡ stack_text_cmp l.left l.right

abbrev pub decreases-loop-byte : goal.decreases-loop-byte
decreases-loop-byte l = length l.rest
