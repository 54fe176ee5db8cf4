use Rattle.std.proofs.Common.{arith, ◌≡◌, ◌<◌, ℕ, List, [], length, map, get_or, refl, sym, ap, ◌∙◌, subst}
use Rattle.profile_rows.specs.Rows.{total_of}
use Rattle.call_tree.specs.State.{name_at}
use Rattle.call_tree.specs.Shape.{IsTree, node_rows}
use Rattle.call_tree.specs.Nodes.{nodes_of, tree_of}
use Rattle.call_tree.proofs.Appending.{IsTree-named}
use Rattle.call_tree.proofs.Totals.{HasTotal-same}
use Rattle.call_tree.proofs.Trees.{values_named}
use Rattle.call_tree.proofs.tree.CallTree.append_name.Goals as goal

pub invariant_of-self-2 : goal.invariant_of-self-2
invariant_of-self-2 c =
    let names = ap (λ t. t.names) c.self.view_is in
    let absent = subst
    (λ (ns : List (List ℕ)). (k : ℕ) → k < length ns → name_at ns k ≡ c.args.name → ⊥) (sym names) c.requires in (
      (λ value lt. subst (λ ns. IsTree ns (nodes_of c.self.inside.nodes value))
          (sym c.in_ok-append.ensures) (IsTree-named _ _ c.args.name (c.self.invariant.0 value lt) absent)),
      HasTotal-same (tree_of c.self.inside.names c.self.inside.nodes)
          (tree_of c.append.new.self c.self.inside.nodes) c.self.inside.total c.self.invariant.1 refl
          (λ value. ap (λ vs. total_of (get_or vs value []))
          (ap (λ ns. map (node_rows ns) c.self.inside.nodes) c.in_ok-append.ensures
          ∙ values_named c.self.inside.names c.self.inside.nodes c.args.name c.self.invariant.0 absent)),
    )

pub returns : goal.returns
returns c = grind (arith, values_named)
