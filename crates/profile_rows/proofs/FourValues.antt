-- Four weights for one to four values, and what each value weighs.
use Rattle.std.proofs.lemmas.Grind.{common_steps}
use Rattle.std.proofs.Common.{◌≡◌, ℕ, zero, suc, ◌+◌, ◌<◌, ◌≤◌, List, [], ◌∷◌, ◌++◌, length, get_or, refl, sym, ap, ◌∙◌}
use Rattle.std.proofs.Common.{◌-◌, arith, replicate, take, drop, length-append, length-drop}
use Rattle.std.proofs.lemmas.List.{drop-replicate}
use Rattle.profile_rows.specs.Values.{IsPadded, value_of}

pub value_of-past : (v : ℕ) (values : List ℕ) → length values ≤ v → value_of v values ≡ 0
value_of-past v [] past = refl
value_of-past zero (x ∷ values) past = absurd (omega arith)
value_of-past (suc v) (x ∷ values) past = value_of-past v values (omega arith)

pub value_of-take : (v w : ℕ) (values : List ℕ) → v < w → value_of v (take w values) ≡ value_of v values
value_of-take v zero values lt = absurd (omega arith)
value_of-take v (suc w) [] lt = refl
value_of-take zero (suc w) (x ∷ values) lt = refl
value_of-take (suc v) (suc w) (x ∷ values) lt = value_of-take v w values (omega arith)

abbrev pub zeros : List ℕ
zeros = 0 ∷ 0 ∷ 0 ∷ 0 ∷ []

value_of-replicate : (n v : ℕ) → value_of v (replicate n 0) ≡ 0
value_of-replicate zero v = refl
value_of-replicate (suc n) zero = refl
value_of-replicate (suc n) (suc v) = value_of-replicate n v

value_of-zeros : (n v : ℕ) → value_of v (drop n zeros) ≡ 0
value_of-zeros n v = ap (value_of v) (drop-replicate n 4 0) ∙ value_of-replicate (4 - n) v

value_of-append_zeros : (n v : ℕ) (values : List ℕ) → value_of v (values ++ drop n zeros) ≡ value_of v values
value_of-append_zeros n v [] = value_of-zeros n v
value_of-append_zeros n zero (x ∷ values) = refl
value_of-append_zeros n (suc v) (x ∷ values) = value_of-append_zeros n v values

-- the values past the width are 0 among the four too
pub value_of-padded : (v w : ℕ) (weights : List ℕ) → IsPadded w weights
    → value_of v (take w weights) ≡ value_of v weights
value_of-padded v w weights is =
    sym (value_of-append_zeros (length (take w weights)) v (take w weights)) ∙ ap (value_of v) is.rest

pub four_weights : (w : ℕ) (weights : List ℕ) → IsPadded w weights → length weights ≡ 4
four_weights w weights is = grind (arith, common_steps, length-append, length-drop)

-- four weights of which those past the width are 0
pub IsPadded-weights : (w a b c d : ℕ) → 0 < w → w ≤ 4 → ((v : ℕ) → w ≤ v → value_of v (a ∷ b ∷ c ∷ d ∷ []) ≡ 0)
    → IsPadded w (a ∷ b ∷ c ∷ d ∷ [])
IsPadded-weights zero a b c d some few past = absurd (omega arith)
IsPadded-weights (suc zero) a b c d some few past = record {
  some = some;
  few = few;
  taken = refl;
  rest = λ i. a ∷ sym (past 1 (omega arith)) i ∷ sym (past 2 (omega arith)) i ∷ sym (past 3 (omega arith)) i ∷ [];
}
IsPadded-weights (suc (suc zero)) a b c d some few past = record {
  some = some;
  few = few;
  taken = refl;
  rest = λ i. a ∷ b ∷ sym (past 2 (omega arith)) i ∷ sym (past 3 (omega arith)) i ∷ [];
}
IsPadded-weights (suc (suc (suc zero))) a b c d some few past = record {
  some = some;
  few = few;
  taken = refl;
  rest = λ i. a ∷ b ∷ c ∷ sym (past 3 (omega arith)) i ∷ [];
}
IsPadded-weights (suc (suc (suc (suc zero)))) a b c d some few past =
    record { some = some; few = few; taken = refl; rest = refl }
IsPadded-weights (suc (suc (suc (suc (suc w))))) a b c d some few past = absurd (omega arith)

-- ---- two rows of four weights, added value by value

module _ (w : ℕ) (xs ys : List ℕ) (x : IsPadded w xs) (y : IsPadded w ys) where
  abbrev pub added : List ℕ
  added = (get_or xs 0 0 + get_or ys 0 0) ∷ (get_or xs 1 0 + get_or ys 1 0) ∷ (get_or xs 2 0 + get_or ys 2 0)
      ∷ (get_or xs 3 0 + get_or ys 3 0) ∷ []

  pub value_of-added : (v : ℕ) → value_of v added ≡ value_of v xs + value_of v ys
  value_of-added zero = refl
  value_of-added (suc zero) = refl
  value_of-added (suc (suc zero)) = refl
  value_of-added (suc (suc (suc zero))) = refl
  value_of-added (suc (suc (suc (suc v)))) = grind (arith, common_steps, value_of-past, four_weights)

  past-width : (v : ℕ) (weights : List ℕ) → IsPadded w weights → w ≤ v → value_of v weights ≡ 0
  past-width v weights is past = grind (arith, common_steps, value_of-past, value_of-padded)

  pub IsPadded-added : IsPadded w added
  IsPadded-added = grind (arith, IsPadded-weights, value_of-added, past-width)

  pub value_of-sums : (v : ℕ) → value_of v (take w added) ≡ value_of v (take w xs) + value_of v (take w ys)
  value_of-sums v = grind (arith, common_steps, value_of-padded, value_of-added, IsPadded-added)
