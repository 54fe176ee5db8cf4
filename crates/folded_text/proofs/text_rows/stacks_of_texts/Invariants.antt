use Rattle.std.proofs.Common.{◌≡◌, take}
use Rattle.ordered_rows.specs.SpelledRows.{spelled_rows}
use Rattle.folded_text.proofs.text_rows.stacks_of_texts.Given as goal

-- the stacks so far
abbrev pub invariant-loop-row : goal.invariant-loop-row
invariant-loop-row l = l.stacks ≡ spelled_rows (take l.row-index l.rows)
