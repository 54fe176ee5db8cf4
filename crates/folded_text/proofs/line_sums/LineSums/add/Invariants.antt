use Rattle.std.proofs.Common.{length, ◌-◌, ◌+◌, ◌≤◌, drop}
use Rattle.folded_text.proofs.AddingLines.{AreAddedTo}
use Rattle.folded_text.proofs.line_sums.LineSums.add.Given as goal

-- the lines so far were added
abbrev pub invariant-loop-len : goal.invariant-loop-len
invariant-loop-len l = (l.len ≤ length l.text) × (l.number ≤ l.len + 1)
    × AreAddedTo l.text (drop l.len l.text) l.fn.self l.self l.number

abbrev pub decreases-loop-len : goal.decreases-loop-len
decreases-loop-len l = length l.text - l.len
