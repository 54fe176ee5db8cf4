-- Four weights that are filled with the values of a row, one after the other.
use Rattle.std.proofs.Common.{◌≡◌, ℕ, zero, suc, ◌+◌, ◌<◌, ◌≤◌, true, false, ltb, List, [], ◌∷◌, length, take, get_or}
use Rattle.std.proofs.Common.{refl, sym, ap, ◌∙◌, subst, arith, ⊎_elim}
use Rattle.std.proofs.Math.ListN.{set}
use Rattle.std.proofs.lemmas.List.{get_or-set_same, get_or-set_other, length-set, length-take-le}
use Rattle.std.proofs.lemmas.Bool.{cases_eq, ltb-true, ltb-false}
use Rattle.profile_rows.specs.Values.{value_of}
use Rattle.profile_rows.proofs.FourValues.{value_of-past, value_of-take}

pub record IsFilled (value_at : ℕ → ℕ) (count : ℕ) (weights : List ℕ) : Type 0 where
  pub size : length weights ≡ 4
  pub each : (k : ℕ) → k < count → get_or weights k 0 ≡ value_at k

pub IsFilled-step : (value_at : ℕ → ℕ) (count value : ℕ) (weights next : List ℕ)
    → IsFilled value_at count weights → count < 4 → value ≡ value_at count
    → next ≡ set weights count value → IsFilled value_at (count + 1) next
IsFilled-step value_at count value weights next filled lt value_is next_is =
    subst (IsFilled value_at (count + 1)) (sym next_is) (record {
      size = length-set weights count value ∙ filled.size;
      each = λ k h. ⊎_elim
          (λ e. ap (λ i. get_or (set weights count value) i 0) e
          ∙ get_or-set_same weights count value 0 (omega (arith, filled.size)) ∙ value_is ∙ ap value_at (sym e))
          (λ ne. get_or-set_other weights count k value 0 ne ∙ filled.each k (omega arith))
          (cases_eq k count);
    })

-- where all values are 0, nothing has to be filled in
pub IsFilled-zeros : (value_at : ℕ → ℕ) (count : ℕ)
    → ((k : ℕ) → value_at k ≡ 0) → IsFilled value_at count (0 ∷ 0 ∷ 0 ∷ 0 ∷ [])
IsFilled-zeros value_at count none = record { size = refl; each = λ k lt. zeros k ∙ sym (none k) }
  where
    zeros : (k : ℕ) → value_of k (0 ∷ 0 ∷ 0 ∷ 0 ∷ []) ≡ 0
    zeros zero = refl
    zeros (suc zero) = refl
    zeros (suc (suc zero)) = refl
    zeros (suc (suc (suc zero))) = refl
    zeros (suc (suc (suc (suc k)))) = refl

pub length-filled : (value_at : ℕ → ℕ) (width : ℕ) (weights : List ℕ)
    → IsFilled value_at width weights → width ≤ 4 → length (take width weights) ≡ width
length-filled value_at width weights filled few = length-take-le width weights (omega (arith, filled.size, few))

pub value_of-filled : (value_at : ℕ → ℕ) (width : ℕ) (weights : List ℕ)
    → IsFilled value_at width weights → width ≤ 4 → ((k : ℕ) → width ≤ k → value_at k ≡ 0)
    → (value : ℕ) → value_of value (take width weights) ≡ value_at value
value_of-filled value_at width weights filled few past value =
    elim (ltb value width) as (λ b. ltb value width ≡ b → value_of value (take width weights) ≡ value_at value) [
      | true ↦ λ e. let lt = ltb-true value width e in value_of-take value width weights lt ∙ filled.each value lt
      | false ↦ λ e. let le = ltb-false value width e in
          let size = length-filled value_at width weights filled few in
          value_of-past value (take width weights) (omega (arith, size, le)) ∙ sym (past value le)
    ] refl
