-- Copies of lists whose items are copies.
use Rattle.std.proofs.Common.{◌≡◌, List, [], ◌∷◌, map, refl}
use Rattle.std.specs.List.{AllZip}

-- what copies have in common with what they are of
pub clones_same : {X Y : Type 0} (f : X → Y) (R : X → X → Type 0) (xs ys : List X) → ((x y : X) → R x y → f y ≡ f x)
    → AllZip R xs ys → map f ys ≡ map f xs
clones_same f R [] [] same are = refl
clones_same f R [] (y ∷ ys) same are = absurd are
clones_same f R (x ∷ xs) [] same are = absurd are
clones_same f R (x ∷ xs) (y ∷ ys) same are = λ i. same x y are.0 i ∷ clones_same f R xs ys same are.1 i
