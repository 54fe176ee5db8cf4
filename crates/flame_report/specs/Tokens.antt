-- The tokens of a layout's JSON text, for private clauses.
use Rattle.std.specs.Prelude.{ℕ, ◌≡◌, List, [], ◌∷◌, ◌++◌, OnOk, Result, codes}
use Rattle.std.specs.List.{flat_map}
use Rattle.std.specs.Fmt.{decimal}
use Rattle.std.specs.declared.alloc.AllocError.{AllocError}
use Rattle.json.specs.Written.{Written}
use Rattle.json.specs.Token.{Token, begin_object, end_object, begin_array, end_array, key, string, number}
use Rattle.flame_report.specs.declared.answer.Flame.{Flame}
use Rattle.flame_report.specs.declared.answer.Rect.{Rect}

-- a member that is a number
abbrev pub member_token : List ℕ → ℕ → List Token
member_token name count = key name ∷ number (decimal count) ∷ []

abbrev pub rect_tokens : Rect → List Token
rect_tokens rect = begin_object ∷ (member_token (codes "depth") rect.depth ++ (member_token (codes "left") rect.left
    ++ (key (codes "name") ∷ string rect.name ∷ (member_token (codes "right") rect.right
    ++ (member_token (codes "weight") rect.weight
    ++ (member_token (codes "x") rect.x ++ end_object ∷ []))))))

abbrev pub rects_tokens : List Rect → List Token
rects_tokens rects = flat_map rect_tokens rects

abbrev pub flame_tokens : Flame → List Token
flame_tokens flame =
    begin_object ∷ (member_token (codes "columns") flame.columns
    ++ (key (codes "rects") ∷ begin_array ∷ (rects_tokens flame.rects
    ++ (end_array ∷ (member_token (codes "total") flame.total ++ end_object ∷ [])))))

-- a writer goes on in its text, to which these tokens were added where memory didn't run out
pub record AddsTokens (old new : Written) (tokens : List Token) (result : Result (Unit {0}) AllocError)
    : Type 0 where
  pub before : new.before ≡ old.before
  pub added : OnOk result (new.tokens ≡ old.tokens ++ tokens)
