use Rattle.std.proofs.Common.{sym, subst}
use Rattle.call_tree.specs.State.{TreeState, IsAppended, IsFresh, plain_at}
use Rattle.call_tree.specs.Nodes.{tree_of}
use Rattle.call_tree.proofs.Growing.{AreGrown-appended}
use Rattle.call_tree.proofs.Totals.{HasTotal-same, total-grown}
use Rattle.call_tree.proofs.Trees.{AreStates-trees, AreTrees-appended, IsAppended-trees}
use Rattle.call_tree.proofs.tree.CallTree.append_node.Goals as goal

pub invariant_of-self-2 : goal.invariant_of-self-2
invariant_of-self-2 c =
    let now = subst (λ (t : TreeState). IsFresh (plain_at t 0) c.args.parent c.args.name c.args.counts)
    (sym c.self.view_is) c.requires in
    let names = c.self.inside.names in
    let all = c.self.inside.nodes in
    let appended = IsAppended-trees
    names all c.append.new.self c.args.parent c.args.name c.args.counts c.self.invariant.0 c.facts.ensures now
    c.in_ok-append.ensures.width c.in_ok-append.ensures.each in (
      AreTrees-appended
          names all c.append.new.self c.args.parent c.args.name c.args.counts c.self.invariant.0 c.facts.ensures now
          c.in_ok-append.ensures.width c.in_ok-append.ensures.each,
      HasTotal-same
          (tree_of names all) (tree_of names c.append.new.self) c.self.inside.total c.self.invariant.1 appended.width
          (total-grown (tree_of names all) (tree_of names c.append.new.self)
          (AreGrown-appended (tree_of names all) (tree_of names c.append.new.self) c.args.parent
          c.args.name c.args.counts (AreStates-trees names all c.facts.ensures c.self.invariant.0) now appended)),
    )

pub returns : goal.returns
returns c =
    let now = subst (λ (t : TreeState). IsFresh (plain_at t 0) c.args.parent c.args.name c.args.counts)
    (sym c.self.view_is) c.requires in
    subst (λ (t : TreeState). IsAppended t c.args.parent c.args.name (tree_of c.self.inside.names c.append.new.self))
    c.self.view_is
    (IsAppended-trees c.self.inside.names c.self.inside.nodes
    c.append.new.self c.args.parent c.args.name c.args.counts c.self.invariant.0 c.facts.ensures now
    c.in_ok-append.ensures.width c.in_ok-append.ensures.each)
