-- Equal chunks leave the order to what is after them.
use Rattle.std.proofs.lemmas.Grind.{common_steps}
use Rattle.std.proofs.Common.{arith}
use Rattle.profile_rows.proofs.SameNames.{same_from_is_same_name}
use Rattle.ordered_rows.proofs.StackOrder.{past_front-cmp}
use Rattle.ordered_rows.proofs.text_order.past_equal_chunks.Goals as goal

pub loop-chunk-preserved : goal.loop-chunk-preserved
loop-chunk-preserved g c = grind (arith, common_steps, same_from_is_same_name, past_front-cmp)
