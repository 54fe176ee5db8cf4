use Rattle.std.proofs.Common.{◌≡◌, ℕ, take}
use Rattle.std.specs.Prelude.{◌==◌}
use Rattle.std.specs.List.{list_any}
use Rattle.std.specs.Ordering.{nat_cmp}
use Rattle.std.specs.BTreeSet as sorted
use Rattle.log_audit.specs.Matching.{HasOneLogEach}
use Rattle.log_audit.proofs.receipts.second_log.Given as goal

-- the set has the sessions of the logs so far, of which each has one
abbrev pub invariant-loop-log : goal.invariant-loop-log
invariant-loop-log l = HasOneLogEach (take l.log-index l.logs)
    × ((session : ℕ) → sorted.contains nat_cmp l.sessions session
    ≡ list_any (λ log. log.session == session) (take l.log-index l.logs))
