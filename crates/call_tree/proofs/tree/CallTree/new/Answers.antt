use Rattle.std.proofs.lemmas.Grind.{common_steps}
use Rattle.std.proofs.Common.{arith}
use Rattle.std.proofs.lemmas.List.{length-map}
use Rattle.call_tree.proofs.Appending.{IsTree-root}
use Rattle.call_tree.proofs.Totals.{HasTotal-root}
use Rattle.call_tree.proofs.Trees.{nodes_at-tree}
use Rattle.call_tree.proofs.tree.CallTree.new.Goals as goal

pub returns : goal.returns
returns c = grind (arith, common_steps, nodes_at-tree)

pub invariant_of-result : goal.invariant_of-result
invariant_of-result c = grind (arith, common_steps, length-map, IsTree-root, HasTotal-root, nodes_at-tree)
