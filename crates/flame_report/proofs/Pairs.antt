-- Lists of which each element is in a relation to each later one.
use Rattle.std.proofs.Common.{List, [], ◌∷◌, ◌++◌, All, arith, suc}
use Rattle.std.specs.List.{AllPairs}
use Rattle.std.proofs.lemmas.List.Elements.{All-append, All-head, All-tail}
use Rattle.std.proofs.lemmas.List.Kept.{AllPairs-cons}

module _ {X : Type 0} (R : X → X → Type 0) where
  pub AllPairs-head : (x : X) (xs : List X) → AllPairs R (x ∷ xs) → All (R x) xs
  AllPairs-head x xs all = λ k d high. all 0 (suc k) d (omega arith) (omega arith)

  pub AllPairs-tail : (x : X) (xs : List X) → AllPairs R (x ∷ xs) → AllPairs R xs
  AllPairs-tail x xs all = λ i j d low high. all (suc i) (suc j) d (omega arith) (omega arith)

  pub AllPairs-append : (xs ys : List X)
      → AllPairs R xs → AllPairs R ys → All (λ x. All (R x) ys) xs → AllPairs R (xs ++ ys)
  AllPairs-append [] ys all_x all_y across = all_y
  AllPairs-append (x ∷ xs) ys all_x all_y across =
      AllPairs-cons R x (xs ++ ys)
      (All-append (R x) xs ys (AllPairs-head x xs all_x) (All-head (λ x. All (R x) ys) x xs across))
      (AllPairs-append xs ys (AllPairs-tail x xs all_x) all_y (All-tail (λ x. All (R x) ys) x xs across))
