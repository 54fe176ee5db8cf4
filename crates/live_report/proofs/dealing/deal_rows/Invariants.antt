use Rattle.std.proofs.Common.{ℕ, ◌≡◌, ◌+◌, ◌<◌, ◌++◌, [], get_or, length, map}
use Rattle.std.specs.Prelude.{sum_by}
use Rattle.op_book.specs.Operations.{PlainOp, plain_op}
use Rattle.profile_rows.specs.OwnedRows.{plain_row}
use Rattle.live_report.specs.Dealing.{addition, turns_of, weigh}
use Rattle.live_report.proofs.Turns.{AreTurns}
use Rattle.live_report.proofs.dealing.deal_rows.Given as goal

-- with the rows that are left all were added
abbrev pub invariant-loop-row : goal.invariant-loop-row
invariant-loop-row l =
    (length l.lists.items ≡ length l.fn.lists.items)
    × (l.worker < length l.lists.items)
    × ((weight : PlainOp → ℕ) → weigh weight (map (λ list. map plain_op list.items) l.lists.items) + sum_by weight
    (map (addition l.width) (map plain_row l.row-iterator.rest.items))
    ≡ weigh weight (map (λ list. map plain_op list.items) l.fn.lists.items) + sum_by weight
    (map (addition l.width) (map plain_row l.fn.rows.items)))
    × AreTurns l.width (length l.lists.items) l.worker (map (λ list. map plain_op list.items) l.lists.items)
    (map plain_row l.row-iterator.rest.items)
    (λ worker. get_or (map (λ list. map plain_op list.items) l.fn.lists.items) worker []
    ++ map (addition l.width) (turns_of (length l.fn.lists.items) worker (map plain_row l.fn.rows.items)))
