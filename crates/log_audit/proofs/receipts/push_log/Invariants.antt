use Rattle.std.proofs.Common.{◌≡◌, ◌++◌, None, length, drop}
use Rattle.std.specs.Option.{option_map}
use Rattle.log_audit.specs.Matching.{logged_from}
use Rattle.log_audit.proofs.receipts.push_log.Given as goal

-- what is there, and what is to come, is the whole
abbrev pub invariant-loop-index : goal.invariant-loop-index
invariant-loop-index l =
    l.all.items ++ logged_from
    (length l.all.items) l.log.session l.index (option_map (λ r. r.now) l.earlier) (drop l.index l.receipt-items)
    ≡ l.fn.all.items ++ logged_from (length l.fn.all.items) l.log.session 0 None l.receipt-items
