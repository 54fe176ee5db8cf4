use Rattle.std.proofs.lemmas.Grind.{common_steps}
use Rattle.std.proofs.Common.{arith}
use Rattle.std.proofs.lemmas.List.{length-map}
use Rattle.call_tree.proofs.Weighing.{nodes_of-none}
use Rattle.call_tree.proofs.nodes.Nodes.new.Goals as goal

pub returns : goal.returns
returns c = grind (arith, common_steps, length-map, nodes_of-none)
