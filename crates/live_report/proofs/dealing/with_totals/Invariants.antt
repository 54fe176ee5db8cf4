use Rattle.std.proofs.Common.{◌≡◌, ◌++◌, map}
use Rattle.op_book.specs.Operations.{plain_op}
use Rattle.live_report.specs.Dealing.{totals_from}
use Rattle.live_report.proofs.dealing.with_totals.Given as goal

-- the first lists have their totals
abbrev pub invariant-loop-list : goal.invariant-loop-list
invariant-loop-list l =
    map (λ list. map plain_op list.items) l.asked.items ++ map
    (λ list. map plain_op list.items ++ totals_from 0 l.width) l.list-iterator.rest.items
    ≡ map (λ list. map plain_op list.items ++ totals_from 0 l.width) l.fn.lists.items
