use Rattle.std.proofs.Common.{◌≡◌, ◌<◌, ◌++◌, length, map, reverse}
use Rattle.call_tree.specs.Shape.{node_rows}
use Rattle.call_tree.specs.Nodes.{nodes_of}
use Rattle.call_tree.specs.State.{stack_at}
use Rattle.call_tree.proofs.tree.CallTree.replace_names.Given as goal

-- what is left of the stack stands at the slot, and the names so far are its rest, leaf first
abbrev pub invariant-loop-slot : goal.invariant-loop-slot
invariant-loop-slot l = record {
  slot : l.slot < length (nodes_of l.self-inside.nodes 0);
  whole : stack_at (node_rows l.self-inside.names (nodes_of l.self-inside.nodes 0)) l.at
      ≡ stack_at (node_rows l.self-inside.names (nodes_of l.self-inside.nodes 0)) l.slot ++ reverse
      (map (λ name. name.now) l.names.items);
}

abbrev pub decreases-loop-slot : goal.decreases-loop-slot
decreases-loop-slot l = l.slot
