use Rattle.std.proofs.Common.{◌≡◌, take, arith, sym, ap, ◌∙◌, subst}
use Rattle.std.proofs.lemmas.List.{get_or_read, take_all}
use Rattle.profile_rows.specs.TopList.{AreSumsOf}
use Rattle.call_tree.specs.State.{PlainTree, nodes_at}
use Rattle.call_tree.specs.Nodes.{nodes_of}
use Rattle.call_tree.proofs.Trees.{seen_plain, value_lt}
use Rattle.call_tree.proofs.Frames.{names_of_weight, named, unnamed, AreSumsOf-tree, AreSumsOf-aggregate}
use Rattle.call_tree.proofs.tree.CallTree.named_sums.Goals as goal
use Rattle.call_tree.proofs.tree.CallTree.named_sums.Goals.{then-sum-gt0+in_ok-name+in_ok-push, else-sum-gt0}

pub loop-number-preserved : goal.loop-number-preserved
loop-number-preserved c = grind (arith, get_or_read, named, unnamed, then-sum-gt0+in_ok-name+in_ok-push, else-sum-gt0)

pub returns : goal.returns
returns c =
    let names = c.args.self.now.names in
    let rows = nodes_at c.args.self.now c.args.value in
    let whole_names : take c.loop-number.number names ≡ names =
    take_all c.loop-number.number names (omega (arith, c.in_ok-sums.ensures.size)) in
    let whole : c.loop-number.totals.items ≡ names_of_weight rows names = c.loop-number.invariant
    ∙ ap (names_of_weight rows) whole_names in
    let all = c.self.inside.nodes in
    let tree = c.self.invariant.0 c.args.value
    (value_lt c.self.inside.names all c.args.self.now c.args.value c.self.view_is c.requires) in
    let are = subst (λ (t : PlainTree). AreSumsOf t.nodes (names_of_weight t.nodes t.names))
    (seen_plain c.self.inside.names all c.args.self.now c.args.value c.self.view_is)
    (AreSumsOf-tree c.self.inside.names (nodes_of all c.args.value) tree) in
    AreSumsOf-aggregate rows c.loop-number.totals.items (subst (AreSumsOf rows) (sym whole) are)
