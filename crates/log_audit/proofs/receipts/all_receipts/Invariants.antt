use Rattle.std.proofs.Common.{◌≡◌, ◌++◌, length, drop}
use Rattle.log_audit.specs.Matching.{logged, logged_after}
use Rattle.log_audit.proofs.receipts.all_receipts.Given as goal

-- what is there, and what is to come, is the whole
abbrev pub invariant-loop-log : goal.invariant-loop-log
invariant-loop-log l = l.all.items ++ logged_after (length l.all.items) (drop l.log-index l.logs) ≡ logged l.logs
