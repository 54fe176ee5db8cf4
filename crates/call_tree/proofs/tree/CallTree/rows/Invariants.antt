use Rattle.call_tree.proofs.Several.{ArePushed}
use Rattle.call_tree.proofs.tree.CallTree.rows.Given as goal

-- the rows of the values so far were added
abbrev pub invariant-loop-value : goal.invariant-loop-value
invariant-loop-value l = ArePushed l.self l.batch l.value
