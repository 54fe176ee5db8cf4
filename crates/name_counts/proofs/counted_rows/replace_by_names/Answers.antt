-- Each text is a name's.
use Rattle.std.proofs.Common.{◌≡◌, ℕ, List, [], ◌∷◌, ◌++◌, ◌+◌, map, take, All, sym, ap, ◌∙◌, subst}
use Rattle.std.proofs.lemmas.List.{take_more, map-append}
use Rattle.std.proofs.lemmas.List.Elements.{All-push}
use denote.Ref.{Bor}
use Rattle.profile_rows.specs.Names.{IsName}
use Rattle.name_counts.proofs.counted_rows.replace_by_names.Goals as goal

pub loop-name-preserved : goal.loop-name-preserved
loop-name-preserved c =
    let seen = take c.loop-name.name-index c.args.names.now in
    let more : take (c.loop-name.name-index + 1) c.args.names.now ≡ seen ++ c.text.result.now ∷ [] =
    take_more c.args.names.now c.loop-name.name-index c.name-item.result c.loop-name-test.true
    ∙ ap (λ name. seen ++ name ∷ []) (sym c.name-item.is ∙ sym c.text.ensures.text) in
    record {
      texts = ap (map (λ (frame : Bor (List ℕ)). frame.now)) c.in_ok-push.ensures.items
          ∙ map-append (λ (frame : Bor (List ℕ)). frame.now) c.loop-name.frames.items (c.text.result ∷ [])
          ∙ ap (λ fs. fs ++ c.text.result.now ∷ []) c.loop-name.invariant.texts
          ∙ sym more;
      names = subst (All IsName) (sym more)
          (All-push IsName seen c.text.result.now c.loop-name.invariant.names
          (subst IsName (sym c.text.ensures.text) c.text.ensures.name));
    }
