-- The nodes of weight above 0 make the map of all nodes.
use Rattle.std.proofs.lemmas.Grind.{common_steps}
use Rattle.std.proofs.Common.{arith}
use Rattle.call_tree.proofs.Indexing.{if_ok_more}
use Rattle.call_tree.proofs.Weighty.{aggregate_of-weighty}
use Rattle.call_tree.proofs.tree.CallTree.weighted_stacks.Goals as goal

pub returns : goal.returns
returns c = grind (arith, common_steps, if_ok_more, aggregate_of-weighty)
