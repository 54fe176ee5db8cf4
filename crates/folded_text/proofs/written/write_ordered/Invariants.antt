use Rattle.std.proofs.Common.{◌≡◌, string_bytes, take}
use Rattle.folded_text.specs.FoldedText.{rows_text}
use Rattle.folded_text.proofs.written.write_ordered.Given as goal

-- the lines so far
abbrev pub invariant-loop-at : goal.invariant-loop-at
invariant-loop-at l = string_bytes l.text ≡ rows_text (take l.at l.rows)
