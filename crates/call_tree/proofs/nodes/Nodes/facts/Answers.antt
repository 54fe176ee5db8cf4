use Rattle.std.proofs.Common.{arith, subst}
use Rattle.call_tree.specs.Nodes.{AreAlike}
use Rattle.call_tree.proofs.Weighing.{AreAlike-all}
use Rattle.call_tree.proofs.nodes.Nodes.facts.Goals as goal

pub returns : goal.returns
returns c = subst AreAlike c.self.view_is (AreAlike-all c.self.inside.links c.self.inside.weights.items
    (omega (arith, c.self.invariant.0, c.self.invariant.1)))
