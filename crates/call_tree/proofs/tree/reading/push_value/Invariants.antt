use Rattle.call_tree.proofs.Several.{IsPushing}
use Rattle.call_tree.proofs.tree.reading.push_value.Given as goal

-- the rows so far were added, and the others are left
abbrev pub invariant-loop-row : goal.invariant-loop-row
invariant-loop-row l = IsPushing l.initial.batch l.batch l.value l.fn.rows l.row-iterator.rest.items
