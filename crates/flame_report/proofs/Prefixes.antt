-- The paths of one stack, and how many of them are known.
use Rattle.std.proofs.Common.{ℕ, ◌≡◌, ◌<◌, ◌≤◌, ◌+◌, List, [], ◌∷◌, length, take, drop, get_or, refl, ap, ◌∙◌, arith}
use Rattle.std.proofs.Common.{zero, suc}
use Rattle.std.proofs.lemmas.List.{length-map, get_or-map, get_or-drop, length-drop}
use Rattle.profile_rows.specs.Paths.{prefixes}

pub length-prefixes : {K : Type 0} (s : List K) → length (prefixes s) ≡ length s + 1
length-prefixes [] = refl
length-prefixes (f ∷ s) = omega (arith, length-map (prefixes s) (λ p. f ∷ p), length-prefixes s)

pub get_or-prefixes : {K : Type 0} (s : List K) (n : ℕ) (d : List K) → n ≤ length s → get_or (prefixes s) n d ≡ take n s
get_or-prefixes [] zero d h = refl
get_or-prefixes [] (suc n) d h = absurd (omega arith)
get_or-prefixes (f ∷ s) zero d h = refl
get_or-prefixes (f ∷ s) (suc n) d h = get_or-map (λ p. f ∷ p) (prefixes s) n d d (omega (arith, length-prefixes s))
    ∙ ap (λ p. f ∷ p) (get_or-prefixes s n d (omega arith))

-- the paths of a stack from one on are its first names
pub drop-prefixes : {K : Type 0} (s : List K) (k j : ℕ) (d : List K)
    → j < length (drop k (prefixes s)) → (k + j ≤ length s) × (get_or (drop k (prefixes s)) j d ≡ take (k + j) s)
drop-prefixes s k j d h = grind (arith, get_or-drop, length-drop, length-prefixes, get_or-prefixes)
