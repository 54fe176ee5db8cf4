use Rattle.std.proofs.Common.{◌≡◌, [], map, replicate}
use Rattle.op_book.specs.Operations.{plain_op}
use Rattle.live_report.proofs.dealing.empty_lists.Given as goal

-- so many lists, and nothing in them
abbrev pub invariant-loop : goal.invariant-loop
invariant-loop l = map (λ list. map plain_op list.items) l.lists.items ≡ replicate l.counter []
