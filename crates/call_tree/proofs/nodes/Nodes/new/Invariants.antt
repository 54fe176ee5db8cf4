use Rattle.std.proofs.Common.{◌≡◌, ℕ, [], length}
use Rattle.call_tree.proofs.Weighing.{table_of}
use Rattle.call_tree.proofs.nodes.Nodes.new.Given as goal

-- an empty table for each value so far
abbrev pub invariant-loop : goal.invariant-loop
invariant-loop l = (length l.weights.items ≡ l.counter) × ((k : ℕ) → table_of l.weights.items k ≡ [])
