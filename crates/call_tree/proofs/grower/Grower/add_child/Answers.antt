use Rattle.std.proofs.lemmas.Grind.{common_steps}
use Rattle.std.proofs.Common.{◌≡◌, ◌<◌, length, Some, cond, arith, sym, ap, ◌∙◌, subst, ⊎_elim}
use Rattle.std.proofs.lemmas.List.{get_or_push, length_push}
use Rattle.std.specs.Result.{is_ok}
use Rattle.std.specs.Arc.{arc_value}
use Rattle.std.specs.HashMap as hash
use Rattle.call_tree.specs.State.{TreeState, AreGrown, AreStates, IsAppended, IsFresh, IsIndex, nodes_at, plain_at}
use Rattle.call_tree.specs.State.{same_key}
use Rattle.call_tree.proofs.Indexing.{IsIndex-look, IsIndex-added, from_ok, kept_by_same}
use Rattle.call_tree.proofs.Growing.{AreGrown-appended}
use Rattle.call_tree.proofs.grower.Grower.add_child.Goals as goal

pub invariant_of-self : goal.invariant_of-self
invariant_of-self c = grind (arith, common_steps, IsIndex-look)

pub invariant_of-self-in_err-make_mut : goal.invariant_of-self-in_err-make_mut
invariant_of-self-in_err-make_mut c =
    kept_by_same _ _ _ _ (⊎_elim (λ e. e) (λ e. e) (rw c.in_err-make_mut.was at c.make_mut.follows.holds-at-none))
    (c.self.invariant.0, IsIndex-look _ _ _ c.in_ok-reserve.ensures.entries.2 c.self.invariant.1)

pub invariant_of-self-in_err-append_node : goal.invariant_of-self-in_err-append_node
invariant_of-self-in_err-append_node c =
    let made = ⊎_elim (λ e. e) (λ e. e) c.in_ok-make_mut.ensures.value in
    let same = c.make_mut.follows.holds c.append_node.new.self (ap is_ok c.in_ok-make_mut.was)
    ∙ c.in_err-append_node.ensures ∙ made in
    kept_by_same _ _ _ _ same
    (c.self.invariant.0, IsIndex-look _ _ _ c.in_ok-reserve.ensures.entries.2 c.self.invariant.1)

pub invariant_of-self-2 : goal.invariant_of-self-2
invariant_of-self-2 c =
    let whole = arc_value c.self.inside.tree in
    let tree = plain_at whole 0 in
    let made : c.in_ok-make_mut.field-0.now ≡ whole = ⊎_elim (λ e. e) (λ e. e) c.in_ok-make_mut.ensures.value in
    let next_is = c.make_mut.follows.holds c.append_node.new.self (ap is_ok c.in_ok-make_mut.was) in
    let states = subst AreStates c.deref-2.ensures c.facts.ensures in
    let now = subst (λ (t : TreeState). IsFresh (plain_at t 0) c.args.parent c.args.name c.args.counts)
    (sym c.self.view_is) c.requires in
    let before = IsIndex-look (hash.get same_key c.self.inside.index)
    (hash.get same_key c.reserve.new.self) tree c.in_ok-reserve.ensures.entries.2 c.self.invariant.1 in
    let ok = subst (λ (t : TreeState). IsAppended t c.args.parent c.args.name c.append_node.new.self)
    made c.in_ok-append_node.ensures in
    let spare = c.in_ok-reserve.ensures.ok in
    let updates =
    from_ok c.insert.result _ (c.insert.ensures.succeeds (omega (arith, spare))) c.insert.ensures.updates in
    let number : c.in_ok-number.number ≡ length tree.nodes = c.in_ok-number.ensures ∙ c.len.ensures
    ∙ ap (λ (t : TreeState). length (nodes_at t 0)) c.deref.ensures in
    let some : 0 < length whole.values = omega (arith, states.some, states.width) in
    let next =
    IsIndex-added tree c.args.parent c.args.name (states.each 0 states.some) now.parent_lt now.name_lt now.fresh
    (hash.get same_key c.reserve.new.self) (hash.get same_key c.insert.new.self)
    (λ key. updates.0 key ∙ ap (λ n. cond (same_key (c.args.parent, c.args.name) key)
    (Some n) (hash.get same_key c.reserve.new.self key)) number) before in
    let after = subst (IsIndex (hash.get same_key c.insert.new.self))
    (λ i. record { names = sym ok.names i; nodes = sym (ok.each 0 some) i }) next in (
      c.self.invariant.0 ∙ sym ok.names ∙ sym (ap (λ (t : TreeState). t.names) next_is),
      subst (λ (t : TreeState). IsIndex (hash.get same_key c.insert.new.self) (plain_at t 0)) (sym next_is) after,
    )

pub returns-clause-nodes : goal.returns-clause-nodes
returns-clause-nodes c =
    let made = ⊎_elim (λ e. e) (λ e. e) c.in_ok-make_mut.ensures.value ∙ c.self.view_is in
    let states = subst AreStates (c.deref-2.ensures ∙ c.self.view_is) c.facts.ensures in
    let ok = subst (λ (t : TreeState). IsAppended t c.args.parent c.args.name c.append_node.new.self)
    made c.in_ok-append_node.ensures in
    let next_is = c.make_mut.follows.holds c.append_node.new.self (ap is_ok c.in_ok-make_mut.was) in
    record {
      grown = subst (AreGrown c.args.self.now) (sym next_is)
          (AreGrown-appended c.args.self.now c.append_node.new.self
          c.args.parent c.args.name c.args.counts states c.requires ok);
      names = ap (λ (t : TreeState). t.names) next_is ∙ ok.names;
    }

pub returns-clause-child : goal.returns-clause-child
returns-clause-child c = grind (arith, common_steps, get_or_push, length_push)
