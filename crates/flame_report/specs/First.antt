-- The first elements of a list by an order.
use Rattle.std.specs.Prelude.{ℕ, ◌≡◌, false, All, List, ◌++◌, length, min, IsPermutation}
use Rattle.std.specs.declared.cmp.Ordering.{Ordering}
use Rattle.std.specs.Ordering.{is_lt}

-- `first` has the first `count` elements of `all` by the order `cmp`, or all where there are no more, in any order
pub record AreFirst {X : Type 0} (cmp : X → X → Ordering) (count : ℕ) (all first : List X) : Type 0 where
  pub rest : List X
  pub permutation : IsPermutation all (first ++ rest)
  pub border : All (λ x. All (λ y. is_lt (cmp y x) ≡ false) rest) first
  pub size : length first ≡ min count (length all)
