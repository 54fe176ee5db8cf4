use Rattle.std.proofs.lemmas.Grind.{common_steps}
use Rattle.std.proofs.Common.{arith}
use Rattle.std.proofs.lemmas.List.{length-set}
use Rattle.call_tree.proofs.Weighing.{in_tables, in_table, others_put, weight_put, tables_put}
use Rattle.call_tree.proofs.nodes.Nodes.put_weight.Goals as goal

pub replace-requires-clause-within : goal.replace-requires-clause-within
replace-requires-clause-within c = grind (arith, common_steps, in_tables, in_table)

pub invariant_of-self-2 : goal.invariant_of-self-2
invariant_of-self-2 c = grind (arith, common_steps, length-set, in_tables, tables_put)

pub returns : goal.returns
returns c = grind (arith, common_steps, in_tables, weight_put, others_put)
