use Rattle.std.proofs.lemmas.Grind.{common_steps}
use Rattle.std.proofs.Common.{arith}
use Rattle.call_tree.proofs.Weighing.{in_tables, in_table, own_read}
use Rattle.call_tree.proofs.nodes.Nodes.weight.Goals as goal

pub read-requires : goal.read-requires
read-requires c = grind (arith, common_steps, in_tables, in_table)

pub returns : goal.returns
returns c = grind (arith, common_steps, in_tables, own_read)
