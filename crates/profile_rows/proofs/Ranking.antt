-- A top list is the front of the names' weights in their order, however they were sorted.
use Rattle.std.proofs.lemmas.Grind.{common_steps}
use Rattle.std.proofs.Common.{◌≡◌, ℕ, ◌+◌, ◌<◌, ◌≤◌, Bool, true, false, cond, ◌||◌, ◌&&◌, ltb, List, [], ◌∷◌, length}
use Rattle.std.proofs.Common.{get_or, take, map, filter, refl, sym, ap, ◌∙◌, arith, IsPermutation}
use Rattle.std.specs.Prelude.{IsSorted, nat_lt}
use Rattle.std.specs.List.{AllByRecursion, list_any, flat_map}
use Rattle.std.specs.declared.cmp.Ordering.{Ordering}
use Rattle.std.specs.declared.cmp.Ordering.TheVariants.{Less, Equal, Greater}
use Rattle.std.specs.Ordering.{eq_by_cmp, is_eq, is_lt, nat_cmp, ordering_then, ordering_reverse}
use Rattle.std.specs.Cmp.{IsTotalOrder}
use Rattle.std.specs.FinMap.{IsAntisymmetric, slice_cmp-IsAntisymmetric, nat_cmp-IsAntisymmetric}
use Rattle.std.specs.Cmp.Lexicographic.{texts_ties}
use Rattle.std.proofs.lemmas.Cmp.{then_total, on_total, back_total, nat_cmp_total, nat_list_cmp_total, tied_itself}
use Rattle.std.proofs.lemmas.Bool.{both_ways}
use Rattle.std.proofs.lemmas.Map.Views.{any-filter_same}
use Rattle.std.proofs.lemmas.List.Sums.{sum_by-cons}
use Rattle.std.proofs.lemmas.List.Sorted.{sum_by-IsPermutation, All-permutation, sorted_far, ranks_by}
use Rattle.std.proofs.lemmas.List.Elements.{recursion_from_All}
use borrow.Author.Tests.{ltb-true, lt-ltb}
use Prim.Native.Nat.{suc}
use Rattle.profile_rows.specs.declared.weighted_stacks.WeightedStack.{WeightedStack}
use Rattle.profile_rows.specs.Names.{is_same_name, name_cmp}
use Rattle.profile_rows.specs.Order.{with_member, in_order}
use Rattle.profile_rows.specs.Rows.{has_name, weight_if, weight_where}
use Rattle.profile_rows.specs.Rows.{cumulative_weight_of}
use Rattle.std.proofs.lemmas.List.Folds.{list_any-append}
use Rattle.profile_rows.specs.declared.frame_totals.FrameTotal.{FrameTotal}
use Rattle.profile_rows.specs.TopList.{Ranking, chosen_weight, top_cmp, sums_at, top_list_of, occurrences}
use Rattle.profile_rows.specs.TopList.{AreSumsOf}
use Rattle.profile_rows.proofs.Members.{Rises, in_order-Rises, in_order-same, member-in_order, same_members}
use Rattle.profile_rows.proofs.SameNames.{same_from_is_same_name, is_same_name-self}

-- ---- the order

pub top_cmp-total : (ranking : Ranking) → IsTotalOrder (top_cmp ranking)
top_cmp-total ranking = then_total (on_total (chosen_weight ranking) (back_total nat_cmp_total))
    (on_total (λ (sums : FrameTotal). sums.name) nat_list_cmp_total)

then_equal : (a b : Ordering) → ordering_then a b ≡ Equal → b ≡ Equal
then_equal Less b e = cc
then_equal Equal b e = e
then_equal Greater b e = cc

-- what ties has one name
tied_name : (ranking : Ranking) (a b : FrameTotal) → top_cmp ranking a b ≡ Equal → a.name ≡ b.name
tied_name ranking a b e = slice_cmp-IsAntisymmetric nat_cmp-IsAntisymmetric a.name b.name (then_equal _ _ e)

-- ---- how often a name stands

abbrev mark : List ℕ → FrameTotal → ℕ
mark name sums = cond (is_same_name name sums.name) 1 0

occurrences-cons : (name : List ℕ) (x : FrameTotal) (xs : List FrameTotal)
    → occurrences name (x ∷ xs) ≡ mark name x + occurrences name xs
occurrences-cons name x xs = sum_by-cons (mark name) x xs

mark-yes : (name : List ℕ) (x : FrameTotal) → is_same_name name x.name ≡ true → mark name x ≡ 1
mark-yes name x e = ap (λ b. cond b 1 0) e

mark-no : (name : List ℕ) (x : FrameTotal) → is_same_name name x.name ≡ false → mark name x ≡ 0
mark-no name x e = ap (λ b. cond b 1 0) e

mark-self : (x : FrameTotal) → mark x.name x ≡ 1
mark-self x = mark-yes x.name x (is_same_name-self x.name)

-- ---- names in order

then_apart : (o p : Ordering) → is_eq p ≡ false → is_eq (ordering_then o p) ≡ false
then_apart Less p e = refl
then_apart Equal p e = e
then_apart Greater p e = refl

module _ (rows : List WeightedStack) (ranking : Ranking) where
  -- names in the order of their sums
  abbrev by_sums : List ℕ → List ℕ → Ordering
  by_sums name other = top_cmp ranking (sums_at rows name) (sums_at rows other)

  total : IsTotalOrder by_sums
  total = on_total (sums_at rows) (top_cmp-total ranking)

  apart : IsAntisymmetric by_sums
  apart name other e = tied_name ranking (sums_at rows name) (sums_at rows other) e

  -- whether a name weighs something
  abbrev weighs : List ℕ → Bool
  weighs name = nat_lt 0 (cumulative_weight_of rows name)

  -- the names that weigh something
  abbrev heavy_names : List (List ℕ) → List (List ℕ)
  heavy_names names = filter weighs names

  sums_of-names : (names : List (List ℕ))
      → filter (λ sums. nat_lt 0 sums.cum) (map (sums_at rows) names) ≡ map (sums_at rows) (heavy_names names)
  sums_of-names [] = refl
  sums_of-names (name ∷ names) = grind (arith, common_steps, sums_of-names names)

  with_member-names : (name : List ℕ) (names : List (List ℕ)) → map (sums_at rows) (with_member by_sums name names)
      ≡ with_member (top_cmp ranking) (sums_at rows name) (map (sums_at rows) names)
  with_member-names name [] = refl
  with_member-names name (other ∷ names) = grind (arith, common_steps, with_member-names name names)

  in_order-names : (names : List (List ℕ))
      → map (sums_at rows) (in_order by_sums names) ≡ in_order (top_cmp ranking) (map (sums_at rows) names)
  in_order-names [] = refl
  in_order-names (name ∷ names) = with_member-names name (in_order by_sums names)
      ∙ ap (with_member (top_cmp ranking) (sums_at rows name)) (in_order-names names)

  -- the top list is that of the names that weigh something, in order
  top_list-names : (names : List (List ℕ))
      → in_order (top_cmp ranking) (filter (λ sums. nat_lt 0 sums.cum) (map (sums_at rows) names))
      ≡ map (sums_at rows) (in_order by_sums (heavy_names names))
  top_list-names names =
      ap (in_order (top_cmp ranking)) (sums_of-names names) ∙ sym (in_order-names (heavy_names names))

  -- ---- which names there are

  same_name : (name other : List ℕ) → eq_by_cmp by_sums name other ≡ is_same_name name other
  same_name name other =
      elim (is_same_name name other) as (λ b. is_same_name name other ≡ b → eq_by_cmp by_sums name other ≡ b) [
        | true ↦ λ e. ap (λ q. is_eq (by_sums q other)) (same_from_is_same_name name other e)
            ∙ ap is_eq (tied_itself total other)
        | false ↦ λ e. then_apart (nat_cmp (chosen_weight ranking (sums_at rows other))
            (chosen_weight ranking (sums_at rows name))) (name_cmp name other) (sym (texts_ties name other) ∙ e)
      ] refl

  member-named : (name : List ℕ) (names : List (List ℕ))
      → list_any (eq_by_cmp by_sums name) names ≡ list_any (is_same_name name) names
  member-named name [] = refl
  member-named name (other ∷ names) = grind (arith, common_steps, same_name, member-named name names)

  heavy-named : (name : List ℕ) (names : List (List ℕ))
      → list_any (is_same_name name) (heavy_names names) ≡ (weighs name && list_any (is_same_name name) names)
  heavy-named name names = any-filter_same (is_same_name name) weighs (weighs name)
      (λ other same. ap weighs (sym (same_from_is_same_name name other same))) names

  -- ---- a sorted list

  abbrev IsOf : FrameTotal → Type 0
  IsOf sums = sums ≡ sums_at rows sums.name

  abbrev names_of : List FrameTotal → List (List ℕ)
  names_of xs = map (λ (sums : FrameTotal). sums.name) xs

  names_again : (xs : List FrameTotal) → AllByRecursion IsOf xs → map (sums_at rows) (names_of xs) ≡ xs
  names_again [] is = refl
  names_again (x ∷ xs) is = ap (λ y. y ∷ map (sums_at rows) (names_of xs)) (sym is.0)
      ∙ ap (λ ys. x ∷ ys) (names_again xs is.1)

  -- what isn't below an element of another name stands after it
  after : (x y : FrameTotal) → IsOf x → IsOf y
      → is_lt (top_cmp ranking y x) ≡ false → mark x.name y ≡ 0 → by_sums x.name y.name ≡ Less
  after x y is_x is_y far other =
      let same : by_sums x.name y.name ≡ top_cmp ranking x y =
      ap (λ z. top_cmp ranking z (sums_at rows y.name)) (sym is_x) ∙ ap (top_cmp ranking x) (sym is_y) in
      same ∙ elim (top_cmp ranking x y) as (λ o. top_cmp ranking x y ≡ o → o ≡ Less) [
        | Less ↦ λ e. refl
        | Equal ↦ λ e.
            let own : mark x.name y ≡ 1 = ap (λ n. mark n y) (tied_name ranking x y e) ∙ mark-self y in
            absurd (omega arith)
        | Greater ↦ λ e.
            let less : is_lt (top_cmp ranking y x) ≡ true =
            ap is_lt ((top_cmp-total ranking).antisymm y x ∙ ap ordering_reverse e) in
            absurd (both_ways _ far less)
      ] refl

  all_after : (x : FrameTotal) (ys : List FrameTotal) → IsOf x → AllByRecursion IsOf ys
      → AllByRecursion (λ y. is_lt (top_cmp ranking y x) ≡ false) ys → occurrences x.name ys ≡ 0
      → AllByRecursion (λ name. by_sums x.name name ≡ Less) (names_of ys)
  all_after x [] is_x is far none = tt
  all_after x (y ∷ ys) is_x is far none =
      let cons = occurrences-cons x.name y ys in
      (after x y is_x is.0 far.0 (omega arith), all_after x ys is_x is.1 far.1 (omega arith))

  rising : (xs : List FrameTotal) → AllByRecursion IsOf xs
      → ((i j : ℕ) (d : FrameTotal) → i ≤ j
      → j < length xs → is_lt (top_cmp ranking (get_or xs j d) (get_or xs i d)) ≡ false)
      → ((name : List ℕ) → occurrences name xs ≤ 1) → Rises by_sums total apart (names_of xs)
  rising [] is far once = tt
  rising (x ∷ xs) is far once =
      let cons = occurrences-cons x.name x xs in
      let here = mark-self x in
      let one = once x.name in (
        all_after x xs is.0 is.1 (recursion_from_All (λ y. is_lt (top_cmp ranking y x) ≡ false) xs
            (λ k d lt. far 0 (suc k) d (omega arith) (omega arith))) (omega arith),
        rising xs is.1 (λ i j d le lt. far (suc i) (suc j) d (omega arith) (omega arith))
            (λ name. let more = occurrences-cons name x xs in let few = once name in omega arith),
      )

  -- a name stands in a list where it occurs
  occurs : (name : List ℕ) (xs : List FrameTotal)
      → list_any (is_same_name name) (names_of xs) ≡ ltb 0 (occurrences name xs)
  occurs name [] = refl
  occurs name (x ∷ xs) = grind (arith, common_steps, lt-ltb, occurrences-cons, mark-yes, mark-no, occurs name xs)

-- ---- the rows' names

weight_if-has : (name : List ℕ) (row : WeightedStack)
    → has_name name row.stack ≡ false → weight_if (has_name name) row ≡ 0
weight_if-has name row e = ap (λ b. cond b row.weight 0) e

-- a name of weight above 0 stands in some row
names_of-some : (rows : List WeightedStack) (name : List ℕ)
    → 0 < cumulative_weight_of rows name → list_any (is_same_name name) (flat_map (λ row. row.stack) rows) ≡ true
names_of-some [] name some = absurd (omega arith)
names_of-some (row ∷ rows) name some =
    let cons : cumulative_weight_of (row ∷ rows) name ≡ weight_if (has_name name) row + cumulative_weight_of rows name =
    sum_by-cons (weight_if (has_name name)) row rows in
    list_any-append (is_same_name name) row.stack (flat_map (λ row. row.stack) rows)
    ∙ elim (has_name name row.stack) as (λ b. has_name name row.stack ≡ b
    → (b || list_any (is_same_name name) (flat_map (λ row. row.stack) rows)) ≡ true) [
      | true ↦ λ e. refl
      | false ↦ λ e. let none = weight_if-has name row e in names_of-some rows name (omega arith)
    ] refl

-- the names of the top list are those that weigh something
heavy-all : (rows : List WeightedStack) (ranking : Ranking) (name : List ℕ)
    → list_any (is_same_name name) (heavy_names rows ranking (flat_map (λ row. row.stack) rows))
    ≡ nat_lt 0 (cumulative_weight_of rows name)
heavy-all rows ranking name = grind (arith, common_steps, ltb-true, heavy-named, names_of-some)

once_decides : (b : Bool) → ltb 0 (cond b 1 0) ≡ b
once_decides true = refl
once_decides false = refl

at_most_once : (b : Bool) → {n : ℕ} → n ≡ cond b 1 0 → n ≤ 1
at_most_once true e = omega arith
at_most_once false e = omega arith

-- However the weights of the names were sorted, their front is the top list.
pub top_list_of-ranked : (ranking : Ranking) (count : ℕ) (rows : List WeightedStack) (sums ranked : List FrameTotal)
    → AreSumsOf rows sums → IsPermutation sums ranked
    → IsSorted (top_cmp ranking) ranked → take count ranked ≡ top_list_of ranking count rows
top_list_of-ranked ranking count rows sums ranked are moved sorted =
    let is : AllByRecursion (IsOf rows ranking) ranked = recursion_from_All
    (IsOf rows ranking) ranked (All-permutation (IsOf rows ranking) sums ranked moved are.weights) in
    let far = sorted_far (λ (x y : FrameTotal). is_lt (top_cmp ranking x y))
    (ranks_by (top_cmp-total ranking) (λ (x : FrameTotal). x)) ranked sorted in
    let once : (name : List ℕ) → occurrences name ranked ≡ cond (nat_lt 0 (cumulative_weight_of rows name)) 1 0 =
    λ name. sum_by-IsPermutation (mark name) sums ranked moved ∙ are.once name in
    let names = heavy_names rows ranking (flat_map (λ row. row.stack) rows) in
    ap (take count) (sym (names_again rows ranking ranked is)
    ∙ ap (map (sums_at rows)) (same_members (by_sums rows ranking) (total rows ranking) (apart rows ranking)
    (names_of rows ranking ranked) (in_order (by_sums rows ranking) names)
    (rising rows ranking ranked is far
    (λ name. at_most_once (nat_lt 0 (cumulative_weight_of rows name)) (once name)))
    (in_order-Rises (by_sums rows ranking) (total rows ranking) (apart rows ranking) names)
    (λ name.
    member-named rows ranking name (names_of rows ranking ranked)
    ∙ occurs rows ranking name ranked
    ∙ ap (ltb 0) (once name) ∙ once_decides (nat_lt 0 (cumulative_weight_of rows name))
    ∙ sym (heavy-all rows ranking name)
    ∙ sym (member-named rows ranking name names)
    ∙ sym (member-in_order (by_sums rows ranking) (total rows ranking) (apart rows ranking) name names)))
    ∙ sym (top_list-names rows ranking (flat_map (λ row. row.stack) rows)))

-- ---- rows with the same sums

sums_at-same : (rows others : List WeightedStack) → ((test : List (List ℕ) → Bool)
    → weight_where test rows ≡ weight_where test others) → (name : List ℕ) → sums_at rows name ≡ sums_at others name
sums_at-same rows others same name = grind (arith, common_steps)

-- have one top list
pub top_list_of-same : (ranking : Ranking) (count : ℕ) (rows others : List WeightedStack)
    → ((test : List (List ℕ) → Bool) → weight_where test rows ≡ weight_where test others)
    → top_list_of ranking count rows ≡ top_list_of ranking count others
top_list_of-same ranking count rows others same =
    let names = heavy_names rows ranking (flat_map (λ row. row.stack) rows) in
    ap (take count) (top_list-names rows ranking (flat_map (λ row. row.stack) rows)
    ∙ ap (map (sums_at rows)) (in_order-same (by_sums rows ranking) (total rows ranking) (apart rows ranking)
    names (heavy_names others ranking (flat_map (λ row. row.stack) others))
    (λ name.
    member-named rows ranking name names ∙ heavy-all rows ranking name
    ∙ ap (nat_lt 0) (same (has_name name)) ∙ sym (heavy-all others ranking name)
    ∙ sym (member-named rows ranking name (heavy_names others ranking (flat_map (λ row. row.stack) others)))))
    ∙ in_order-names rows ranking (heavy_names others ranking (flat_map (λ row. row.stack) others))
    ∙ ap (in_order (top_cmp ranking)) (of_others (heavy_names others ranking (flat_map (λ row. row.stack) others))
    ∙ sym (sums_of-names others ranking (flat_map (λ row. row.stack) others))))
  where
    of_others : (names : List (List ℕ)) → map (sums_at rows) names ≡ map (sums_at others) names
    of_others [] = refl
    of_others (name ∷ names) = ap (λ y. y ∷ map (sums_at rows) names) (sums_at-same rows others same name)
        ∙ ap (λ ys. sums_at others name ∷ ys) (of_others names)
