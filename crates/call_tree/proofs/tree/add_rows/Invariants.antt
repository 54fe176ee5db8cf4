use Rattle.call_tree.proofs.Adding.{AreAdded}
use Rattle.call_tree.proofs.tree.add_rows.Given as goal

-- the weights of the rows so far are added
abbrev pub invariant-loop-index : goal.invariant-loop-index
invariant-loop-index l = AreAdded l.names l.initial.nodes l.nodes l.value l.batch.rows l.index
