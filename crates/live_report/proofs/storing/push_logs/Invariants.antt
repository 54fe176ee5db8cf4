use Rattle.std.proofs.Common.{ℕ, ◌≡◌, ◌≤◌, ◌+◌, ◌++◌, List, length, map}
use Rattle.std.specs.Prelude.{vec_capacity}
use Rattle.op_book.specs.Operations.{PlainOp}
use Rattle.live_store.specs.Workers.{AreWorkOf, ops_told}
use Rattle.live_report.specs.Faults.{first_stop}
use Rattle.live_report.proofs.storing.push_logs.Given as goal

-- the logs so far tell the first lists, and the workers that are left have done the others; none has stopped yet, and
-- there is memory for the other logs
abbrev pub invariant-loop-one : goal.invariant-loop-one
invariant-loop-one l =
    ((limit width : ℕ) (lists : List (List PlainOp)) → AreWorkOf limit width lists l.fn.worked.items
    → (others : List (List PlainOp)) × AreWorkOf limit width others l.one-iterator.rest.items
    × (map (λ log. ops_told log.receipts) l.fn.logs.items ++ lists
    ≡ map (λ log. ops_told log.receipts) l.logs.items ++ others))
    × (first_stop l.fn.worked.items ≡ first_stop l.one-iterator.rest.items)
    × (length l.logs.items + length l.one-iterator.rest.items ≤ vec_capacity l.logs)
