-- Where ids stand.
use Rattle.std.proofs.Common.{ℕ, ◌≡◌, ◌≢◌, ◌+◌, ◌<◌, ◌≤◌, ◌∙◌, ap, cond, eqb, length, List, Some, None, Option}
use Rattle.std.proofs.Common.{sym, inl, inr, arith}
use Rattle.std.specs.Prelude.{MatchOption, slice_get, unwrap_or}
use Rattle.std.proofs.lemmas.Bool.{cases_eq, eq-eqb, ne_eqb}
use Rattle.std.proofs.lemmas.Option.{slice_get_within}
use Rattle.profile_samples.specs.IdIndex.{AreIdIndices}

-- what is found among the first ids, so many
abbrev pub AreIndicesOfFirst : List ℕ → (ℕ → Option ℕ) → ℕ → Type 0
AreIndicesOfFirst ids find count =
    (id : ℕ)
    → MatchOption (find id) ((at : ℕ) → at < count → slice_get ids at ≢ Some id) (λ at. slice_get ids at ≡ Some id)

-- the index of the next id
pub indices_more : (ids : List ℕ) (before after : ℕ → Option ℕ) (at id : ℕ) → slice_get ids at ≡ Some id
    → ((other : ℕ) → after other ≡ cond (eqb id other) (Some at) (before other))
    → AreIndicesOfFirst ids before at → AreIndicesOfFirst ids after (at + 1)
indices_more ids before after at id stands put indices other = elim (cases_eq id other) [
  | inl same ↦ rw (put other, eq-eqb id other same) (stands ∙ ap Some same)
  | inr ne ↦ rw (put other, ne_eqb id other ne) (further (before other) (indices other) ne)
]
  where
    further : (found : Option ℕ)
        → MatchOption found ((k : ℕ) → k < at → slice_get ids k ≢ Some other) (λ k. slice_get ids k ≡ Some other)
        → id ≢ other → MatchOption found
        ((k : ℕ) → k < at + 1 → slice_get ids k ≢ Some other) (λ k. slice_get ids k ≡ Some other)
    further (Some index) there ne = there
    further None nowhere ne = λ k lt there. elim (cases_eq k at) [
      | inl e ↦ ne (ap (λ o. unwrap_or o id) (sym stands ∙ ap (slice_get ids) (sym e) ∙ there))
      | inr other_number ↦ nowhere k (omega (arith, lt, other_number)) there
    ]

-- the indices of all ids
pub indices_all : (ids : List ℕ) (find : ℕ → Option ℕ) (count : ℕ)
    → length ids ≤ count → AreIndicesOfFirst ids find count → AreIdIndices ids find
indices_all ids find count all indices id = whole (find id) (indices id)
  where
    whole : (found : Option ℕ)
        → MatchOption found ((k : ℕ) → k < count → slice_get ids k ≢ Some id) (λ k. slice_get ids k ≡ Some id)
        → MatchOption found ((k : ℕ) → slice_get ids k ≢ Some id) (λ k. slice_get ids k ≡ Some id)
    whole (Some index) there = there
    whole None nowhere =
        λ k there. (let lt = slice_get_within ids k id there in nowhere k (omega (arith, lt, all)) there)
