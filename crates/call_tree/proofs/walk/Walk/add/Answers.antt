use Rattle.std.proofs.lemmas.Grind.{common_steps}
use Rattle.std.proofs.Common.{◌≡◌, ◌<◌, ℕ, suc, true, false, ◌||◌, nat_eq, List, [], ◌∷◌, length, get_or, arith, refl}
use Rattle.std.proofs.Common.{sym}
use Rattle.std.specs.List.{list_any}
use Rattle.std.proofs.lemmas.Bool.{eqb-true}
use Rattle.std.proofs.lemmas.List.{get_or_read}
use Rattle.call_tree.proofs.walk.Walk.add.Goals as goal
use Rattle.call_tree.proofs.walk.Walk.add.Goals.{else-position-len-via-then-position-len+else-index-name}
use Rattle.call_tree.proofs.walk.Walk.add.Goals.{else-position-len-via-else-position-len}

none_there : (names : List ℕ) (name : ℕ)
    → ((k : ℕ) → k < length names → get_or names k 0 ≡ name → ⊥) → false ≡ list_any (nat_eq name) names
none_there [] name h = refl
none_there (x ∷ names) name h =
    elim (nat_eq name x) as (λ b. nat_eq name x ≡ b → false ≡ (b || list_any (nat_eq name) names)) [
      | true ↦ λ e. absurd (h 0 (omega arith) (sym (eqb-true name x e)))
      | false ↦ λ e. none_there names name (λ k lt f. h (suc k) (omega arith) f)
    ] refl

pub returns-clause-there : goal.returns-clause-there
returns-clause-there c =
    grind (
      arith,
      common_steps,
      get_or_read,
      else-position-len-via-then-position-len+else-index-name,
      else-position-len-via-else-position-len,
      none_there,
    )
