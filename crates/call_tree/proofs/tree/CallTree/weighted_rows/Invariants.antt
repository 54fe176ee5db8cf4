use Rattle.std.proofs.Common.{◌≡◌, filter, take}
use Rattle.call_tree.specs.State.{has_weight, nodes_at}
use Rattle.call_tree.proofs.tree.CallTree.weighted_rows.Given as goal

-- the rows of the nodes so far
abbrev pub invariant-loop-index : goal.invariant-loop-index
invariant-loop-index l = l.rows ≡ filter has_weight (take l.index (nodes_at l.self l.value))
