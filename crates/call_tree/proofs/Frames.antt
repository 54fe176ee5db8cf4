-- The names of a tree with their weights: each name of weight is one of the tree's names, and stands there once.
use Rattle.std.proofs.lemmas.Grind.{common_steps}
use Rattle.std.proofs.Common.{rules, ◌≡◌, ℕ, zero, suc, ◌+◌, ◌<◌, Bool, true, false, cond, List, [], ◌∷◌, ◌++◌, length}
use Rattle.std.proofs.Common.{map, filter, take, refl, sym, ap, ◌∙◌, arith, IsPermutation, ◌⊎◌, inl, inr}
use Rattle.std.proofs.Common.{⊎_elim}
use Rattle.std.specs.Prelude.{nat_lt}
use Rattle.std.specs.List.{AllByRecursion}
use Rattle.std.proofs.lemmas.List.{append-nil, take_more, map_push}
use Rattle.std.proofs.lemmas.List.Elements.{All-from_recursion, filter-append}
use Rattle.std.proofs.lemmas.List.Sorted.{All-permutation, sum_by-IsPermutation}
use Rattle.std.proofs.lemmas.List.Sums.{sum_by-cons}
use Rattle.profile_rows.specs.declared.weighted_stacks.WeightedStack.{WeightedStack}
use Rattle.profile_rows.specs.Names.{is_same_name}
use Rattle.profile_rows.specs.Rows.{has_name, weight_if, flat_weight_of, cumulative_weight_of}
use Rattle.profile_rows.specs.Aggregate.{aggregate_of, rows_of}
use Rattle.profile_rows.specs.TopList.{AreSumsOf, occurrences, sums_at}
use Rattle.profile_rows.proofs.EntryLaws.{weight_where-rows_of}
use Rattle.profile_rows.proofs.SameNames.{same_from_is_same_name, is_same_name-self}
use borrow.Author.Tests.{lt-ltb}
use Rattle.call_tree.specs.declared.node.Node.{Node}
use Rattle.profile_rows.specs.declared.frame_totals.FrameTotal.{FrameTotal}
use Rattle.call_tree.specs.State.{name_at, stack_at}
use Rattle.call_tree.specs.Shape.{node_rows, IsTree}
use Rattle.call_tree.proofs.Paths.{has_name-next}
use Rattle.call_tree.proofs.Shapes.{length-node_rows, stack_at-child, stack_at-root}

abbrev mark : List ℕ → FrameTotal → ℕ
mark name sums = cond (is_same_name name sums.name) 1 0

abbrev weighs : FrameTotal → Bool
weighs sums = nat_lt 0 sums.cum

-- of some names, those of cumulative weight above 0, with their weights
abbrev pub names_of_weight : List WeightedStack → List (List ℕ) → List FrameTotal
names_of_weight rows names = filter weighs (map (sums_at rows) names)

-- ---- one name more

pub names_of_weight-more : (rows : List WeightedStack) (names : List (List ℕ)) (k : ℕ) → k < length names
    → names_of_weight rows (take (k + 1) names)
    ≡ names_of_weight rows (take k names) ++ filter weighs (sums_at rows (name_at names k) ∷ [])
names_of_weight-more rows names k lt = grind (arith, common_steps, take_more, map_push, filter-append)

-- the loop's step, as the code reads and writes
module _ (rows : List WeightedStack) (names : List (List ℕ)) (k flat cum : ℕ) (name : List ℕ) (lt : k < length names)
    (flat_is : flat ≡ flat_weight_of rows (name_at names k))
    (cum_is : cum ≡ cumulative_weight_of rows (name_at names k))
    (totals next : List FrameTotal) (before : totals ≡ names_of_weight rows (take k names)) where
  pub named : 0 < cum → name ≡ name_at names k → next ≡ totals ++ (record { name = name; flat = flat; cum = cum }) ∷ []
      → next ≡ names_of_weight rows (take (k + 1) names)
  named some name_is next_is = grind (arith, common_steps, lt-ltb, names_of_weight-more)

  pub unnamed : cum ≡ 0 → next ≡ totals → next ≡ names_of_weight rows (take (k + 1) names)
  unnamed none next_is = grind (arith, common_steps, append-nil, names_of_weight-more)

-- ---- how often a name stands there

module _ (rows : List WeightedStack) where
  abbrev of : List (List ℕ) → List FrameTotal
  of names = names_of_weight rows names

  weighs_cons : (name first : List ℕ) (names : List (List ℕ))
      → occurrences name (of (first ∷ names)) ≡ cond
      (nat_lt 0 (cumulative_weight_of rows first)) (mark name (sums_at rows first)) 0 + occurrences name (of names)
  weighs_cons name first names = grind (arith, common_steps, sum_by-cons)

  zero_if : (b : Bool) → let none : ℕ = 0 in cond b none none ≡ none
  zero_if true = refl
  zero_if false = refl

  none_first : (name first : List ℕ)
      → (name ≡ first → ⊥) → cond (nat_lt 0 (cumulative_weight_of rows first)) (mark name (sums_at rows first)) 0 ≡ 0
  none_first name first apart = grind (arith, common_steps, same_from_is_same_name, zero_if)

  absent : (name : List ℕ) (names : List (List ℕ))
      → ((k : ℕ) → k < length names → name_at names k ≡ name → ⊥) → occurrences name (of names) ≡ 0
  absent name [] none = refl
  absent name (first ∷ names) none =
      let rest = absent name names (λ k lt e. none (suc k) (omega arith) e) in
      let here = none_first name first (λ e. none 0 (omega arith) (sym e)) in
      let cons = weighs_cons name first names in
      omega (arith, rest, here, cons)

  present : (name : List ℕ) (names : List (List ℕ)) (k : ℕ) → k < length names → name_at names k ≡ name
      → ((i j : ℕ) → i < length names → j < length names → name_at names i ≡ name_at names j → i ≡ j)
      → occurrences name (of names) ≡ cond (nat_lt 0 (cumulative_weight_of rows name)) 1 0
  present name [] k lt e unlike = absurd (omega arith)
  present name (first ∷ names) zero lt e unlike =
      let rest = absent name names
      (λ j h f. let same : 0 ≡ suc j = unlike 0 (suc j) (omega arith) (omega arith) (e ∙ sym f) in omega arith) in
      let here : cond (nat_lt 0 (cumulative_weight_of rows first)) (mark name (sums_at rows first)) 0
      ≡ cond (nat_lt 0 (cumulative_weight_of rows name)) 1 0 =
      ap (λ n. cond (nat_lt 0 (cumulative_weight_of rows n)) (mark name (sums_at rows n)) 0) e
      ∙ ap (λ b. cond (nat_lt 0 (cumulative_weight_of rows name)) (cond b 1 0) 0) (is_same_name-self name) in
      let cons = weighs_cons name first names in
      omega (arith, rest, here, cons)
  present name (first ∷ names) (suc k) lt e unlike =
      let rest = present name names k (omega arith) e (λ i j hi hj f. let same : suc i ≡ suc j =
      unlike (suc i) (suc j) (omega arith) (omega arith) f in omega arith) in
      let here = none_first name first
      (λ f. let same : 0 ≡ suc k = unlike 0 (suc k) (omega arith) lt (sym f ∙ sym e) in omega arith) in
      let cons = weighs_cons name first names in
      omega (arith, rest, here, cons)

  weights : (names : List (List ℕ)) → AllByRecursion (λ sums. sums ≡ sums_at rows sums.name) (of names)
  weights [] = tt
  weights (first ∷ names) = grind (arith, common_steps, weights names)

-- whether a name has a number
search_name : (name : List ℕ) (names : List (List ℕ)) → ((k : ℕ) × (k < length names) × (name_at names k ≡ name))
    ⊎ ((k : ℕ) → k < length names → name_at names k ≡ name → ⊥)
search_name name [] = inr (λ k lt e. absurd (omega arith))
search_name name (first ∷ names) =
    elim (is_same_name name first) as (λ b. is_same_name name first ≡ b
    → ((k : ℕ) × (k < length (first ∷ names)) × (name_at (first ∷ names) k ≡ name))
    ⊎ ((k : ℕ) → k < length (first ∷ names) → name_at (first ∷ names) k ≡ name → ⊥)) [
      | true ↦ λ e. inl (0, omega arith, sym (same_from_is_same_name name first e))
      | false ↦ λ e. ⊎_elim
          (λ found. inl (suc found.0, omega (arith, found.1), found.2))
          (λ none. inr (later e none))
          (search_name name names)
    ] refl
  where
    later : is_same_name name first ≡ false → ((k : ℕ) → k < length names → name_at names k ≡ name → ⊥)
        → (k : ℕ) → k < length (first ∷ names) → name_at (first ∷ names) k ≡ name → ⊥
    later e none zero lt f = let yes : is_same_name name first ≡ true = ap (is_same_name name) f
        ∙ is_same_name-self name in cc
    later e none (suc k) lt f = none k (omega arith) f

module _ (names : List (List ℕ)) (nodes : List Node) (tree : IsTree names nodes) where
  -- a name that the tree hasn't stands in no stack
  unnamed_to : (name : List ℕ)
      → ((k : ℕ) → k < length names → name_at names k ≡ name → ⊥) → (count k : ℕ) → k < count → k < length nodes
      → has_name name (stack_at (node_rows names nodes) k) ≡ false
  unnamed_to name none zero k below lt = absurd (omega arith)
  unnamed_to name none (suc count) zero below lt = ap (has_name name) (stack_at-root names nodes)
  unnamed_to name none (suc count) (suc k) below lt =
      search (rules, same_from_is_same_name, has_name-next, stack_at-child, unnamed_to name none count)

  nameless : (name : List ℕ) → ((k : ℕ) → k < length names → name_at names k ≡ name → ⊥)
      → cumulative_weight_of (node_rows names nodes) name ≡ 0
  nameless name none = weightless (node_rows names nodes)
      (λ k lt. unnamed_to name none (length nodes) k
      (omega (arith, lt, length-node_rows names nodes)) (omega (arith, lt, length-node_rows names nodes)))
    where
      weightless : (rows : List WeightedStack)
          → ((k : ℕ) → k < length rows → has_name name (stack_at rows k) ≡ false) → cumulative_weight_of rows name ≡ 0
      weightless [] h = refl
      weightless (row ∷ rows) h =
          let rest = weightless rows (λ k lt. h (suc k) (omega arith)) in
          let here = ap (λ b. cond b row.weight 0) (h 0 (omega arith)) in
          omega (arith, sum_by-cons (weight_if (has_name name)) row rows, rest, here)

  once : (name : List ℕ) → occurrences name (names_of_weight (node_rows names nodes) names)
      ≡ cond (nat_lt 0 (cumulative_weight_of (node_rows names nodes) name)) 1 0
  once name = grind (arith, absent, present, search_name, nameless)

  pub AreSumsOf-tree : AreSumsOf (node_rows names nodes) (names_of_weight (node_rows names nodes) names)
  AreSumsOf-tree = record { weights = All-from_recursion _ _ (weights (node_rows names nodes) names); once = once }

-- ---- the same of other rows and of another order

pub AreSumsOf-permutation : (rows : List WeightedStack) (xs ys : List FrameTotal)
    → IsPermutation xs ys → AreSumsOf rows xs → AreSumsOf rows ys
AreSumsOf-permutation rows xs ys moved are = record {
  weights = All-permutation (λ sums. sums ≡ sums_at rows sums.name) xs ys moved are.weights;
  once = λ name. sum_by-IsPermutation (mark name) xs ys moved ∙ are.once name;
}

pub AreSumsOf-aggregate : (rows : List WeightedStack) (xs : List FrameTotal)
    → AreSumsOf rows xs → AreSumsOf (rows_of (aggregate_of rows)) xs
AreSumsOf-aggregate rows xs are = grind (arith, common_steps, weight_where-rows_of, weights, once)
