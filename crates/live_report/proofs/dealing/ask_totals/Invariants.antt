use Rattle.std.proofs.Common.{◌≡◌, ◌-◌, ◌++◌, map}
use Rattle.op_book.specs.Operations.{plain_op}
use Rattle.live_report.specs.Dealing.{totals_from}
use Rattle.live_report.proofs.dealing.ask_totals.Given as goal

-- with the totals of the values that are left the list has all
abbrev pub invariant-loop-value : goal.invariant-loop-value
invariant-loop-value l =
    map plain_op l.list.items ++ totals_from l.value (l.fn.width - l.value)
    ≡ map plain_op l.fn.list.items ++ totals_from 0 l.fn.width
