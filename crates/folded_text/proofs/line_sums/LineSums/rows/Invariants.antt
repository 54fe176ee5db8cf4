use Rattle.std.proofs.Common.{◌≡◌, ◌++◌}
use Rattle.folded_text.specs.LineSums.{kept_rows}
use Rattle.folded_text.proofs.line_sums.LineSums.rows.Given as goal

-- the rows so far, and those that are left
abbrev pub invariant-loop-text : goal.invariant-loop-text
invariant-loop-text l = l.rows.items ++ kept_rows l.text-iterator ≡ l.self
