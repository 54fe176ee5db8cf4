use Rattle.std.proofs.Common.{◌≡◌, take}
use Rattle.call_tree.specs.State.{nodes_at}
use Rattle.call_tree.proofs.Frames.{names_of_weight}
use Rattle.call_tree.proofs.tree.CallTree.named_sums.Given as goal

-- the names with the numbers so far
abbrev pub invariant-loop-number : goal.invariant-loop-number
invariant-loop-number l = l.totals.items ≡ names_of_weight (nodes_at l.self l.value) (take l.number l.self.names)
