-- A step to the parent has one name more, and at the root nothing is left.
use Rattle.std.proofs.lemmas.Grind.{common_steps}
use Rattle.std.proofs.Common.{arith}
use Rattle.std.proofs.lemmas.List.{append-nil, get_or_read}
use Rattle.call_tree.proofs.Trees.{length-seen, seen}
use Rattle.call_tree.proofs.Shapes.{stack_at-child}
use Rattle.call_tree.proofs.Turning.{map-reverse, turned, turned_names, turned_step}
use Rattle.call_tree.proofs.tree.CallTree.replace_names.Goals as goal

pub loop-slot-init : goal.loop-slot-init
loop-slot-init c = grind (arith, common_steps, append-nil, length-seen)

pub loop-slot-preserved : goal.loop-slot-preserved
loop-slot-preserved c = grind (arith, common_steps, get_or_read, stack_at-child, turned_names, turned_step)

pub returns : goal.returns
returns c = grind (arith, common_steps, seen, map-reverse, turned)
