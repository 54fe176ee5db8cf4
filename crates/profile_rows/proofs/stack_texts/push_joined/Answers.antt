-- One name more.
use Rattle.std.proofs.lemmas.Grind.{common_steps}
use Rattle.std.proofs.Common.{rules, ◌≡◌, ℕ, List, ◌∷◌, ◌++◌, [], ◌<◌, ◌⊎◌, ap, sym, ◌∙◌, inl, inr, arith, map, get_or}
use Rattle.std.proofs.Common.{All, length, string_bytes, subst, take}
use Rattle.std.proofs.lemmas.List.{get_or-map, length-map, take_more}
use Rattle.std.proofs.lemmas.List.Elements.{All-push}
use Rattle.profile_rows.specs.Names.{IsName}
use Rattle.profile_rows.proofs.Joining.{join_more}
use Rattle.profile_rows.proofs.stack_texts.push_joined.Goals as goal
use Rattle.profile_rows.proofs.stack_texts.push_joined.Goals.{then-index-gt0+in_ok-push, else-index-gt0}

pub loop-index-preserved : goal.loop-index-preserved
loop-index-preserved g c =
    let names = map g.N.AsName.name c.args.names.now in
    let k = c.loop-index.index in
    let before = string_bytes c.loop-index.text in
    let after = string_bytes c.if-index-gt0.text in
    let cut : ((0 < k) × (after ≡ before ++ 59 ∷ [])) ⊎ ((k ≡ 0) × (after ≡ before)) =
    elim c.if-index-gt0.branch [
      | then-index-gt0+in_ok-push w ↦ inl (omega arith, search rules)
      | else-index-gt0 w ↦ inr (omega arith, search rules)
    ] in
    let name_is : get_or names k [] ≡ c.text.result.now =
    get_or-map g.N.AsName.name c.args.names.now k c.index-names-index.result [] c.loop-index-test.true
    ∙ ap g.N.AsName.name (sym c.index-names-index.is) ∙ sym (c.text.ensures.text ∙ c.as_name.ensures) in
    let lt : k < length names = let long = length-map c.args.names.now g.N.AsName.name in
    omega (arith, c.loop-index-test.true, long) in
    let more : string_bytes c.push_str.new.self ≡ after ++ c.text.result.now = search rules in
    record {
      joined = more ∙ ap (λ name. after ++ name) (sym name_is)
          ∙ join_more names k [] (string_bytes c.args.text.now) before after lt c.loop-index.invariant.joined cut;
      named = subst (All IsName) (sym (take_more names k [] lt)) (All-push IsName (take k names) (get_or names k [])
          c.loop-index.invariant.named (subst IsName (sym (name_is ∙ c.text.ensures.text)) c.text.ensures.name));
    }
