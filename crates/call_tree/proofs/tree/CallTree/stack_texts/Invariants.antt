use Rattle.std.proofs.Common.{filter, take}
use Rattle.call_tree.specs.State.{has_weight, nodes_at}
use Rattle.call_tree.proofs.Texts.{AreSpelled}
use Rattle.call_tree.proofs.tree.CallTree.stack_texts.Given as goal

-- the texts of the nodes so far
abbrev pub invariant-loop-at : goal.invariant-loop-at
invariant-loop-at l = AreSpelled (filter has_weight (take l.at (nodes_at l.self l.value))) l.texts.items
