-- A list's first elements by an order, sorted, are the front of the whole list sorted.
use Rattle.std.proofs.lemmas.Grind.{common_steps}
use Rattle.std.proofs.Common.{◌≡◌, ℕ, ◌+◌, Bool, true, false, List, [], ◌∷◌, ◌++◌, All, length, min, take, get_or, refl}
use Rattle.std.proofs.Common.{sym, arith, IsPermutation}
use Rattle.std.specs.Prelude.{IsSorted}
use Rattle.std.specs.List.Sorted.{IsSplitAround}
use Rattle.std.specs.declared.cmp.Ordering.{Ordering}
use Rattle.std.specs.Ordering.{is_lt}
use Rattle.std.specs.Cmp.{IsTotalOrder, IsStrictWeakOrder}
use Rattle.std.proofs.lemmas.List.{length-append}
use Rattle.std.proofs.lemmas.List.Elements.{All-cons}
use Rattle.std.proofs.lemmas.List.Sorted.{IsPermutation-refl, IsPermutation-trans, IsPermutation-cons}
use Rattle.std.proofs.lemmas.List.Sorted.{IsPermutation-middle, IsPermutation-append, All-permutation}
use Rattle.std.proofs.lemmas.List.Sorted.{length_permutation, sorted_far, ranks_by}
use Rattle.std.specs.List.{AllPairs}
use Rattle.std.proofs.lemmas.List.Kept.{AllPairs-cons}
use Rattle.flame_report.specs.First.{AreFirst}
use Rattle.flame_report.proofs.Pairs.{AllPairs-head, AllPairs-tail, AllPairs-append}

module _ {X : Type 0} (lt : X → X → Bool) (order : IsStrictWeakOrder lt) where
  -- no element is below one before it
  abbrev NotAbove : X → X → Type 0
  NotAbove x y = lt y x ≡ false

  abbrev Rises : List X → Type 0
  Rises = AllPairs NotAbove

  -- one more element finds its place
  placed : (x : X) (xs : List X) → Rises xs → (ys : List X) × IsPermutation (x ∷ xs) ys × Rises ys
  placed x [] up = (x ∷ [], IsPermutation-refl (x ∷ []), λ i j d low high. absurd (omega arith))
  placed x (y ∷ ys) up =
      let above = AllPairs-head NotAbove y ys up in
      elim (lt x y) as (λ b. lt x y ≡ b → (zs : List X) × IsPermutation (x ∷ y ∷ ys) zs × Rises zs) [
        | true ↦ λ e.
            let not_below : lt y x ≡ false = order.one_way x y e in (
              x ∷ y ∷ ys,
              IsPermutation-refl (x ∷ y ∷ ys),
              AllPairs-cons NotAbove x (y ∷ ys) (All-cons (NotAbove x) y ys not_below
                  (λ k d high. order.chain (get_or ys k d) y x (above k d high) not_below)) up,
            )
        | false ↦ λ e.
            let rest = placed x ys (AllPairs-tail NotAbove y ys up) in (
              y ∷ rest.0,
              IsPermutation-trans (x ∷ y ∷ ys) (y ∷ x ∷ ys) (y ∷ rest.0)
                  (IsPermutation-middle (x ∷ []) y ys) (IsPermutation-cons y (x ∷ ys) rest.0 rest.1),
              AllPairs-cons NotAbove y rest.0
                  (All-permutation (NotAbove y) (x ∷ ys) rest.0 rest.1
                  (All-cons (NotAbove y) x ys e above)) rest.2,
            )
      ] refl

  -- each list can be sorted
  sorting : (xs : List X) → (ys : List X) × IsPermutation xs ys × Rises ys
  sorting [] = ([], IsPermutation-refl [], λ i j d low high. absurd (omega arith))
  sorting (x ∷ xs) =
      let rest = sorting xs in
      let all = placed x rest.0 rest.2 in
      (all.0, IsPermutation-trans (x ∷ xs) (x ∷ rest.0) all.0 (IsPermutation-cons x xs rest.0 rest.1) all.1, all.2)

-- as many as there are, up to `count`, are all of the first `count`
front : {X : Type 0} (count : ℕ) (xs ys : List X)
    → length xs ≡ min count (length xs + length ys) → take count (xs ++ ys) ≡ xs
front count xs ys size = grind (arith, common_steps)

-- what stands before a selected element are the first
pub selected_first : {X : Type 0} (cmp : X → X → Ordering) → IsTotalOrder cmp
    → (count : ℕ) (all before : List X) (one : X) (after : List X) → IsPermutation all (before ++ one ∷ after)
    → length before ≡ count → IsSplitAround cmp before one after → AreFirst cmp count all before
selected_first {X} cmp total count all before one after moved size split =
    grind (arith, common_steps, length-append, length_permutation, ranks_by, All-cons)

-- the first elements, sorted, are the front of a list of all that is sorted: what is left out is sorted after them
pub ranked_whole : {X : Type 0} (cmp : X → X → Ordering) → IsTotalOrder cmp → (count : ℕ) (all first sorted : List X)
    → AreFirst cmp count all first → IsPermutation first sorted → IsSorted cmp sorted
    → (whole : List X) × IsPermutation all whole × IsSorted cmp whole × (sorted ≡ take count whole)
ranked_whole {X} cmp total count all first sorted are moved up =
    let lt : X → X → Bool = λ x y. is_lt (cmp x y) in
    let order : IsStrictWeakOrder (λ (x y : X). is_lt (cmp x y)) = ranks_by total (λ (x : X). x) in
    let back = sorting lt order are.rest in
    let border : All (λ x. All (λ y. is_lt (cmp y x) ≡ false) back.0) sorted =
    All-permutation (λ x. All (λ y. is_lt (cmp y x) ≡ false) back.0) first sorted moved
    (λ k d high. All-permutation (λ y. is_lt (cmp y (get_or first k d)) ≡ false)
    are.rest back.0 back.1 (are.border k d high)) in
    let up_all : AllPairs (λ x y. is_lt (cmp y x) ≡ false) (sorted ++ back.0) =
    AllPairs-append (λ x y. is_lt (cmp y x) ≡ false) sorted back.0
    (λ i j d low high. sorted_far lt order sorted up i j d (omega arith) high) back.2 border in
    let kept = length_permutation first sorted moved in
    let left = length_permutation are.rest back.0 back.1 in
    let whole = length_permutation all (first ++ are.rest) are.permutation in (
      sorted ++ back.0,
      IsPermutation-trans all (first ++ are.rest) (sorted ++ back.0) are.permutation
          (IsPermutation-append first sorted are.rest back.0 moved back.1),
      λ k d low high. up_all k (k + 1) d (omega arith) high,
      sym (front count sorted back.0 (omega (arith, are.size, length-append first are.rest))),
    )
