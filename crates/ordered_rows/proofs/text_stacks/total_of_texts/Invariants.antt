use Rattle.std.proofs.Common.{◌≡◌, take}
use Rattle.profile_rows.specs.Rows.{total_of}
use Rattle.ordered_rows.specs.SpelledRows.{spelled_rows}
use Rattle.ordered_rows.proofs.text_stacks.total_of_texts.Given as goal

-- the weight of the rows so far
abbrev pub invariant-loop-row : goal.invariant-loop-row
invariant-loop-row l = l.total ≡ total_of (spelled_rows (take l.row-index l.rows))
