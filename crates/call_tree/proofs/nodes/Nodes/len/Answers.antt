use Rattle.std.proofs.lemmas.Grind.{common_steps}
use Rattle.std.proofs.Common.{arith}
use Rattle.call_tree.proofs.Weighing.{length-nodes_of}
use Rattle.call_tree.proofs.nodes.Nodes.len.Goals as goal

pub returns : goal.returns
returns c = grind (arith, common_steps, length-nodes_of)
