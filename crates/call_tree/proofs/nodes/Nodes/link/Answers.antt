use Rattle.std.proofs.lemmas.Grind.{common_steps}
use Rattle.std.proofs.Common.{◌<◌, length, arith, sym, ap}
use Rattle.call_tree.specs.Nodes.{without_weight}
use Rattle.call_tree.proofs.Weighing.{in_links, node_is}
use Rattle.call_tree.proofs.nodes.Nodes.link.Goals as goal

pub read-requires : goal.read-requires
read-requires c = grind (arith, common_steps, in_links)

pub returns : goal.returns
returns c =
    let links = c.self.inside.links in
    let tables = c.self.inside.weights.items in
    let some : 0 < length tables = omega (arith, c.self.invariant.0, c.self.invariant.1) in
    sym (ap without_weight (node_is links tables c.args.self.now c.self.view_is 0 c.args.slot some c.requires
    c.read.result.now c.read.ensures))
