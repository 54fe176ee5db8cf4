use Rattle.std.proofs.Common.{subst}
use Rattle.call_tree.specs.State.{AreStates}
use Rattle.call_tree.proofs.Trees.{AreStates-trees}
use Rattle.call_tree.proofs.tree.CallTree.facts.Goals as goal

pub returns : goal.returns
returns c = subst AreStates c.self.view_is
    (AreStates-trees c.self.inside.names c.self.inside.nodes c.facts.ensures c.self.invariant.0)
