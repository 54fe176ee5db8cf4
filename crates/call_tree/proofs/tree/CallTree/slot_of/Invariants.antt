use Rattle.call_tree.proofs.tree.CallTree.slot_of.Given as goal
use Rattle.call_tree.specs.Nodes.{nodes_of}
use Rattle.call_tree.proofs.Finding.{IsFound}

abbrev pub invariant-loop-index : goal.invariant-loop-index
invariant-loop-index l = IsFound l.self-inside.names (nodes_of l.self-inside.nodes 0) l.frames l.index l.slot l.depth
