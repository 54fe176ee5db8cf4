use Rattle.std.proofs.lemmas.Grind.{common_steps}
use Rattle.std.proofs.Common.{◌≡◌, ◌<◌, ℕ, [], ◌∷◌, ◌++◌, length, get_or, arith, sym, ap, ◌∙◌, subst}
use Rattle.std.proofs.Common.{⊎_elim}
use Rattle.std.specs.Result.{is_ok}
use Rattle.std.specs.Arc.{arc_value}
use Rattle.std.specs.HashMap as hash
use Rattle.call_tree.specs.State.{TreeState, AreStates, IsIndex, plain_at, same_key, name_at}
use Rattle.std.specs.Prelude.{if◌then◌else◌}
use Rattle.indexmap.specs.IndexSet.{insert_key}
use Rattle.profile_rows.specs.Names.{is_same_name}
use Rattle.call_tree.proofs.Indexing.{IsIndex-named, from_ok, kept_by_same, not_named}
use Rattle.call_tree.proofs.Growing.{AreGrown-named}
use Rattle.call_tree.proofs.grower.Grower.add_name.Goals as goal

pub invariant_of-self-2 : goal.invariant_of-self-2
invariant_of-self-2 c =
    let tree = plain_at (arc_value c.self.inside.tree) 0 in
    let states = subst AreStates c.deref.ensures c.facts.ensures in
    let state = states.each 0 states.some in
    let made : c.in_ok-make_mut.field-0.now ≡ arc_value c.self.inside.tree =
    ⊎_elim (λ e. e) (λ e. e) c.in_ok-make_mut.ensures.value in
    let next_is = c.make_mut.follows.holds c.append_name.new.self (ap is_ok c.in_ok-make_mut.was) in
    let ok = c.in_ok-append_name.ensures in
    let listed : c.in_ok-listed.listed ≡ c.args.name.now = c.in_ok-listed.ensures.cases in
    let key : c.in_ok-key.key ≡ c.args.name.now = c.in_ok-key.ensures.cases in
    let absent = subst (λ (t : TreeState). (k : ℕ) → k < length t.names → name_at t.names k ≡ c.args.name.now → ⊥)
    (sym c.self.view_is) c.requires in
    let next =
    IsIndex-named tree c.args.name.now (hash.get same_key c.self.inside.index) state absent c.self.invariant.1 in
    let tree_is : record tree { names = tree.names ++ c.args.name.now ∷ [] } ≡ plain_at c.append_name.new.self 0 =
    λ i. record {
      names = sym (ok.1 ∙ (λ j. (made j).names ++ listed j ∷ [])) i;
      nodes = get_or (sym (ok.2 ∙ ap (λ (t : TreeState). t.values) made) i) 0 [];
    } in
    let spare = c.in_ok-reserve.ensures.ok in
    let inserted : c.insert.new.self.keys ≡ insert_key is_same_name c.reserve.new.self.keys c.in_ok-key.key =
    from_ok c.insert.result _ (c.insert.ensures.succeeds (omega (arith, spare))) c.insert.ensures.keys in
    let keys : c.reserve.new.self.keys ≡ tree.names = c.in_ok-reserve.ensures.keys ∙ c.self.invariant.0 in
    let pushed : insert_key is_same_name tree.names c.args.name.now ≡ tree.names ++ c.args.name.now ∷ [] =
    ap (λ b. if b then tree.names else tree.names ++ c.args.name.now ∷ [])
    (not_named tree.names c.args.name.now absent) in (
      inserted ∙ (λ i. insert_key is_same_name (keys i) (key i))
          ∙ pushed ∙ ap (λ t. t.names) tree_is ∙ sym (ap (λ (t : TreeState). t.names) next_is),
      subst (IsIndex (hash.get same_key c.self.inside.index))
          (tree_is ∙ sym (ap (λ (t : TreeState). plain_at t 0) next_is)) next,
    )

pub returns-clause-names : goal.returns-clause-names
returns-clause-names c = grind (arith, common_steps, AreGrown-named)

pub invariant_of-self-in_err-make_mut : goal.invariant_of-self-in_err-make_mut
invariant_of-self-in_err-make_mut c =
    kept_by_same _ _ _ _ (⊎_elim (λ e. e) (λ e. e) (rw c.in_err-make_mut.was at c.make_mut.follows.holds-at-none))
    (c.in_ok-reserve.ensures.keys ∙ c.self.invariant.0, c.self.invariant.1)

pub invariant_of-self-in_err-append_name : goal.invariant_of-self-in_err-append_name
invariant_of-self-in_err-append_name c =
    let made = ⊎_elim (λ e. e) (λ e. e) c.in_ok-make_mut.ensures.value in
    let same = c.make_mut.follows.holds c.append_name.new.self (ap is_ok c.in_ok-make_mut.was)
    ∙ c.in_err-append_name.ensures ∙ made in
    kept_by_same _ _ _ _ same (c.in_ok-reserve.ensures.keys ∙ c.self.invariant.0, c.self.invariant.1)
