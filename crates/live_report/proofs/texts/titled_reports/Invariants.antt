use Rattle.std.proofs.Common.{ℕ, ◌≡◌, ◌-◌, ◌++◌, List}
use Rattle.profile_rows.specs.Aggregate.{aggregate_of}
use Rattle.profile_rows.specs.Values.{Row, rows_at}
use Rattle.call_tree.specs.State.{weights_of}
use Rattle.live_report.specs.Live.{titled_from}
use Rattle.live_report.proofs.texts.titled_reports.Given as goal

-- with the reports of the values that are left the text has all
abbrev pub invariant-loop-value : goal.invariant-loop-value
invariant-loop-value l =
    (rows : List Row) → ((value : ℕ) → aggregate_of (rows_at value rows) ≡ weights_of l.tree value)
    → l.text.items ++ titled_from l.value (l.tree.width - l.value) rows ≡ titled_from 0 l.tree.width rows
