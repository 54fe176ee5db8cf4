use Rattle.call_tree.proofs.Adding.{AreAddedTo}
use Rattle.call_tree.proofs.tree.CallTree.add_batch.Given as goal

-- the values so far are added
abbrev pub invariant-loop-value : goal.invariant-loop-value
invariant-loop-value l = AreAddedTo l.fn.self.names l.initial.nodes l.nodes l.batch.rows l.value
