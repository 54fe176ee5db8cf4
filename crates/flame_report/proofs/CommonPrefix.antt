-- The front that two lists have in common.
use Rattle.std.proofs.lemmas.Grind.{common_steps}
use Rattle.std.proofs.Common.{◌≡◌, Bool, List, [], ◌∷◌, length, map, arith, refl}
use Rattle.std.proofs.lemmas.List.Sums.{take_while-cons}
use Rattle.std.specs.List.{common_prefix_len, take_while, zip}

-- how many pairs of items are alike, from the first on
pub pairs_alike : {A B C D : Type 0} (alike : C → D → Bool) (f : A → C) (g : B → D) (xs : List A) (ys : List B)
    → length (take_while (λ pair. alike (f pair.0) (g pair.1)) (zip xs ys))
    ≡ common_prefix_len alike (map f xs) (map g ys)
pairs_alike alike f g [] ys = refl
pairs_alike alike f g (x ∷ xs) [] = refl
pairs_alike alike f g (x ∷ xs) (y ∷ ys) = grind (arith, common_steps, take_while-cons, pairs_alike alike f g xs ys)
