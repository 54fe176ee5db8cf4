use Rattle.std.proofs.Common.{take}
use Rattle.name_counts.specs.Tallies.{HasCounted}
use Rattle.ordered_rows.specs.SpelledRows.{spelled_rows}
use Rattle.ordered_rows.proofs.counting.count_rows.Given as goal

-- the rows so far are counted
abbrev pub invariant-loop-row : goal.invariant-loop-row
invariant-loop-row l = HasCounted (spelled_rows (take l.row-index l.rows)) l.counted
