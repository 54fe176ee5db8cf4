use Rattle.std.proofs.lemmas.Grind.{common_steps}
use Rattle.std.proofs.Common.{arith, sym, ap, ◌∙◌}
use Rattle.call_tree.specs.Nodes.{linked}
use Rattle.call_tree.proofs.Weighing.{in_tables, in_links, in_table, node_is, weight_read}
use Rattle.call_tree.proofs.nodes.Nodes.read.Goals as goal

pub read-link-requires : goal.read-link-requires
read-link-requires c = grind (arith, common_steps, in_tables, in_links)

pub read-requires : goal.read-requires
read-requires c = grind (arith, common_steps, in_tables, in_table)

pub returns : goal.returns
returns c =
    let links = c.self.inside.links in
    let tables = c.self.inside.weights.items in
    let link = c.read-link.result.now in
    let lt = in_tables links tables c.args.self.now c.self.view_is c.args.value c.requires.value in
    ap (λ weight. linked link weight) (weight_read links tables c.args.self.now c.self.view_is c.args.value c.args.slot
    lt c.requires.within c.self.invariant.2 c.index.result.now c.index.ensures c.read.result.now c.read.ensures)
    ∙ sym (node_is links tables c.args.self.now c.self.view_is c.args.value c.args.slot lt c.requires.within link
    c.read-link.ensures)
