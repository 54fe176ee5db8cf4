-- The nodes by each value are as many, and a node's row has its weight.
use Rattle.std.proofs.lemmas.Grind.{common_steps}
use Rattle.std.proofs.Common.{arith}
use Rattle.call_tree.proofs.Shapes.{row_at-node_rows}
use Rattle.call_tree.proofs.Trees.{length-seen, seen}
use Rattle.call_tree.proofs.tree.CallTree.weight.Goals as goal

pub weight-requires-clause-within : goal.weight-requires-clause-within
weight-requires-clause-within c =
    omega (
      arith,
      c.requires.within,
      c.facts.ensures.sizes c.args.value c.requires.value,
      length-seen c.self.inside.names c.self.inside.nodes c.args.self.now c.args.value c.self.view_is,
    )

pub returns : goal.returns
returns c = grind (arith, common_steps, row_at-node_rows, seen)
