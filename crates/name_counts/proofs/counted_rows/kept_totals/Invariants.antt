use Rattle.std.proofs.Common.{take}
use Rattle.std.specs.Option.{option_copied}
use Rattle.profile_rows.specs.Rows.{kept_rows}
use Rattle.name_counts.specs.Tallies.{HasCounted}
use Rattle.name_counts.proofs.counted_rows.kept_totals.Given as goal

-- the kept rows so far are counted
abbrev pub invariant-loop-row : goal.invariant-loop-row
invariant-loop-row l =
    HasCounted (kept_rows (option_copied l.focus) (option_copied l.ignored) (take l.row-index l.row-items)) l.rows
