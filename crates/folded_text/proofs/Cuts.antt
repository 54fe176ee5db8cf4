-- Two cuts of one list, each at an item.
use Rattle.std.proofs.lemmas.Grind.{common_steps}
use Rattle.std.proofs.Common.{arith, ◌≡◌, ◌⊎◌, List, [], ◌∷◌, ◌++◌, refl, inl, inr}

-- they are at one place, or one lies before the other
abbrev pub AreCuts : {A : Type 0} → List A → A → List A → A → Type 0
AreCuts {A} before item others other = ((before ≡ others) × (item ≡ other))
    ⊎ (((rest : List A) × (before ≡ others ++ other ∷ rest)) ⊎ ((rest : List A) × (others ≡ before ++ item ∷ rest)))

pub cuts : {A : Type 0} → (before : List A) (item : A) (after others : List A) (other : A) (rest : List A)
    → before ++ item ∷ after ≡ others ++ other ∷ rest → AreCuts before item others other
cuts [] item after [] other rest e = inl (refl, cc)
cuts [] item after (o ∷ others) other rest e = inr (inr (others, cc))
cuts (b ∷ before) item after [] other rest e = inr (inl (before, cc))
cuts (b ∷ before) item after (o ∷ others) other rest e =
    grind (arith, common_steps, cuts before item after others other rest (cc))
