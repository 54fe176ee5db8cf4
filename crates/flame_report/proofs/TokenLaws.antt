-- The tokens of a layout are those of its JSON value.
use Rattle.std.proofs.lemmas.Grind.{common_steps}
use Rattle.std.proofs.Common.{arith, ◌≡◌, List, [], ◌∷◌, ◌++◌, map, refl, sym, ap, ◌∙◌}
use Rattle.std.proofs.lemmas.List.{append_assoc}
use Rattle.json.specs.Token.{Token, end_array}
use Rattle.json.specs.Print.{print}
use Rattle.json.specs.Tree.{json_tokens, items_tokens}
use Rattle.serde_json.specs.Written.{outline, items_outline}
use Rattle.serde_json.proofs.Texts.{print-outline}
use Rattle.flame_report.specs.Json.{items_from, rect_data, flame_data, flame_json_of}
use Rattle.flame_report.specs.Tokens.{flame_tokens, rects_tokens}
use Rattle.flame_report.specs.declared.answer.Flame.{Flame}
use Rattle.flame_report.specs.declared.answer.Rect.{Rect}

rects_back : (rects : List Rect) (rest : List Token)
    → items_tokens (items_outline (items_from (map rect_data rects))) ++ rest ≡ rects_tokens rects ++ (end_array ∷ rest)
rects_back [] rest = refl
rects_back (rect ∷ rects) rest = grind (arith, common_steps, append_assoc, rects_back rects rest)

tokens_back : (flame : Flame) → json_tokens (outline (flame_data flame)) ≡ flame_tokens flame
tokens_back flame = grind (arith, common_steps, rects_back)

pub print-flame_tokens : (flame : Flame) → print (flame_tokens flame) ≡ flame_json_of flame
print-flame_tokens flame = ap print (sym (tokens_back flame)) ∙ print-outline (flame_data flame)
