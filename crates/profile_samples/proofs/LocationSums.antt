-- Lists of locations and what they weigh.
use Rattle.std.proofs.lemmas.Grind.{common_steps}
use Rattle.std.proofs.Common.{◌≡◌, ℕ, ◌+◌, ◌^◌, ◌<◌, ◌≤◌, List, [], ◌∷◌, ◌++◌, length, get_or, map, set, take}
use Rattle.std.proofs.Common.{refl, sym, ap, ◌∙◌, Some, slice_get, arith}
use Rattle.std.specs.Prelude.{replicate}
use Rattle.std.proofs.lemmas.List.{get_or-map, length-map, map-append, map-set, take_more}
use Rattle.std.proofs.lemmas.List.Sums.{get_or-le-sum_by, sum_by-cons, sum_by-set, sum_by_more_le, sum_by_push}
use Rattle.std.proofs.lemmas.Option.{get_or_from_slice_get, slice_get_within}
use Prim.Native.Nat.{zero, suc}
use Rattle.pprof_profile.specs.LocationLists.{list_at}
use Rattle.pprof_profile.specs.declared.messages.Draft.{Draft}
use Rattle.profile_rows.specs.declared.weighted_stacks.WeightedStack.{WeightedStack}
use Rattle.profile_rows.specs.Merging.{AddsRow, AreMergedSoFar, row_at, with_added_at}
use Rattle.profile_rows.specs.Rows.{total_of}
use Rattle.profile_rows.proofs.MergedRows.{AddsRow-added}
use Rattle.profile_rows.proofs.RowLaws.{weight_where-push}
use Rattle.profile_samples.specs.LocationSums.{FitStacks, LocationSum, location_sums, row_of_sum, rows_of_sums, sum_at}
use Rattle.profile_samples.specs.LocationSums.{sum_without_weight, sums_without_weight, total_of_sums}
use Rattle.profile_samples.specs.LocationSums.{with_raised_at}
use Rattle.profile_samples.specs.Samples.{sample_stack_of}

abbrev none : LocationSum
none = record { ids = []; weight = 0 }

-- ---- lists with their weights

pub without_weight : (lists : List (List ℕ))
    → location_sums lists (replicate (length lists) 0) ≡ sums_without_weight lists
without_weight [] = refl
without_weight (ids ∷ lists) = ap (λ sums. (record { ids = ids; weight = 0 }) ∷ sums) (without_weight lists)

pub total_of-without_weight : (lists : List (List ℕ)) → total_of_sums (sums_without_weight lists) ≡ 0
total_of-without_weight [] = refl
total_of-without_weight (ids ∷ lists) = grind (arith, common_steps, sum_by-cons, total_of-without_weight lists)

pub many_sums : (lists : List (List ℕ)) (weights : List ℕ) → length weights ≡ length lists
    → length (location_sums lists weights) ≡ length lists
many_sums [] weights same = refl
many_sums (ids ∷ lists) [] same = grind (arith, common_steps)
many_sums (ids ∷ lists) (weight ∷ weights) same =
    ap suc (many_sums lists weights (omega (arith, same)))

pub sum_there : (lists : List (List ℕ)) (weights : List ℕ) (at weight : ℕ) → length weights ≡ length lists
    → at < length lists → weight ≡ get_or weights at weight
    → slice_get (location_sums lists weights) at ≡ Some (record { ids = list_at lists at; weight = weight })
sum_there [] weights at weight same lt is = grind (arith, common_steps)
sum_there (ids ∷ lists) [] at weight same lt is = grind (arith, common_steps)
sum_there (ids ∷ lists) (first ∷ weights) zero weight same lt is = grind (arith, common_steps)
sum_there (ids ∷ lists) (first ∷ weights) (suc at) weight same lt is =
    sum_there lists weights at weight (omega (arith, same)) (omega (arith, lt)) is

weights_set : (lists : List (List ℕ)) (weights : List ℕ) (at weight : ℕ) → length weights ≡ length lists
    → location_sums lists (set weights at weight)
    ≡ set (location_sums lists weights) at
    (record { ids = (sum_at (location_sums lists weights) at).ids; weight = weight })
weights_set [] weights at weight same = refl
weights_set (ids ∷ lists) [] at weight same = grind (arith, common_steps)
weights_set (ids ∷ lists) (first ∷ weights) zero weight same = refl
weights_set (ids ∷ lists) (first ∷ weights) (suc at) weight same =
    ap (λ sums. (record { ids = ids; weight = first }) ∷ sums)
    (weights_set lists weights at weight (omega (arith, same)))

weight_there : (lists : List (List ℕ)) (weights : List ℕ) (at before : ℕ) → length weights ≡ length lists
    → at < length lists → before ≡ get_or weights at before
    → (sum_at (location_sums lists weights) at).weight ≡ before
weight_there lists weights at before same lt is =
    ap (λ (sum : LocationSum). sum.weight)
    (get_or_from_slice_get (location_sums lists weights) at _ none (sum_there lists weights at before same lt is))

-- a list weighs more
pub weights_raised : (lists : List (List ℕ)) (weights : List ℕ) (at before weight : ℕ)
    → length weights ≡ length lists → at < length lists → before ≡ get_or weights at before
    → location_sums lists (set weights at (before + weight)) ≡ with_raised_at (location_sums lists weights) at weight
weights_raised lists weights at before weight same lt is =
    let sums = location_sums lists weights in
    weights_set lists weights at (before + weight) same
    ∙ ap (λ w. set sums at (record { ids = (sum_at sums at).ids; weight = w + weight }))
    (sym (weight_there lists weights at before same lt is))

-- and no more than all
pub weight_within : (lists : List (List ℕ)) (weights : List ℕ) (at before : ℕ)
    → length weights ≡ length lists → at < length lists → before ≡ get_or weights at before
    → before ≤ total_of_sums (location_sums lists weights)
weight_within lists weights at before same lt is =
    let most = get_or-le-sum_by (λ (sum : LocationSum). sum.weight) (location_sums lists weights) at none
    (omega (arith, lt, many_sums lists weights same)) in
    omega (arith, most, weight_there lists weights at before same lt is)

pub total_of_sums-raised : (sums : List LocationSum) (at weight : ℕ) → at < length sums
    → total_of_sums (with_raised_at sums at weight) ≡ total_of_sums sums + weight
total_of_sums-raised sums at weight lt =
    omega (
      arith,
      sum_by-set (λ (sum : LocationSum). sum.weight) sums at
          (record { ids = (sum_at sums at).ids; weight = (sum_at sums at).weight + weight }) none lt,
    )

-- ---- the lists of sums

abbrev pub lists_of : List LocationSum → List (List ℕ)
lists_of sums = map (λ (sum : LocationSum). sum.ids) sums

pub lists_of-without : (lists : List (List ℕ)) → lists_of (sums_without_weight lists) ≡ lists
lists_of-without [] = refl
lists_of-without (ids ∷ lists) = ap (λ all. ids ∷ all) (lists_of-without lists)

pub lists_of-raised : (sums : List LocationSum) (at weight : ℕ)
    → lists_of (with_raised_at sums at weight) ≡ lists_of sums
lists_of-raised [] at weight = refl
lists_of-raised (sum ∷ sums) zero weight = refl
lists_of-raised (sum ∷ sums) (suc at) weight = ap (λ all. sum.ids ∷ all) (lists_of-raised sums at weight)

-- ---- the rows of lists

-- they weigh what the lists do
pub total_of-rows : (draft : Draft) (sums : List LocationSum) → total_of (rows_of_sums draft sums) ≡ total_of_sums sums
total_of-rows draft [] = refl
total_of-rows draft (sum ∷ sums) = grind (arith, common_steps, sum_by-cons, total_of-rows draft sums)

-- none weighs anything yet
pub merged-without : (draft : Draft) (lists : List (List ℕ))
    → AreMergedSoFar [] (rows_of_sums draft (sums_without_weight lists))
merged-without draft [] = record { weights = λ stack. refl; total = refl }
merged-without draft (ids ∷ lists) = record {
  weights = λ stack. grind (arith, common_steps, sum_by-cons, (merged-without draft lists).weights stack);
  total = grind (arith, common_steps, sum_by-cons, (merged-without draft lists).total);
}

pub FitStacks-without : (draft : Draft) (lists : List (List ℕ)) → FitStacks draft (sums_without_weight lists)
FitStacks-without draft lists k d lt = λ some.
    let same = get_or-map sum_without_weight lists k [] d (omega (arith, lt, length-map lists sum_without_weight)) in
    absurd (omega (arith, rw same at some))

module _ (draft : Draft) (ids : List ℕ) (sums : List LocationSum) (at weight : ℕ) (lt : at < length sums)
    (is : (sum_at sums at).ids ≡ ids) where
  -- the list of a sample weighs its row more
  pub AddsRow-raised : total_of_sums sums + weight < 2 ^ 63
      → AddsRow (rows_of_sums draft sums) (rows_of_sums draft (with_raised_at sums at weight))
      (record { stack = sample_stack_of draft ids; weight = weight })
  AddsRow-raised fits = rw rows (AddsRow-added (rows_of_sums draft sums) at weight _ inside
      (omega (arith, fits, total_of-rows draft sums)) own)
    where
      inside : at < length (rows_of_sums draft sums)
      inside = omega (arith, lt, length-map sums (row_of_sum draft))

      rows : rows_of_sums draft (with_raised_at sums at weight) ≡ with_added_at (rows_of_sums draft sums) at weight
      rows = grind (arith, common_steps, map-set)

      own : (let r : WeightedStack = record { stack = sample_stack_of draft ids; weight = weight } in r)
          ≡ record { stack = (row_at (rows_of_sums draft sums) at).stack; weight = weight }
      own = grind (arith, common_steps)

  -- and its frames fit
  pub FitStacks-raised : length (sample_stack_of draft ids) ≤ 65535 → FitStacks draft sums
      → FitStacks draft (with_raised_at sums at weight)
  FitStacks-raised deep fit = grind (arith, common_steps)

-- ---- a loop over lists

-- one list more
pub rows-more : (draft : Draft) (sums : List LocationSum) (at : ℕ) (sum : LocationSum)
    → slice_get sums at ≡ Some sum
    → rows_of_sums draft (take (at + 1) sums) ≡ rows_of_sums draft (take at sums) ++ row_of_sum draft sum ∷ []
rows-more draft sums at sum is =
    ap (rows_of_sums draft) (take_more sums at sum (slice_get_within sums at sum is))
    ∙ map-append (row_of_sum draft) (take at sums) (get_or sums at sum ∷ [])
    ∙ ap (λ (s : LocationSum). rows_of_sums draft (take at sums) ++ row_of_sum draft s ∷ [])
    (get_or_from_slice_get sums at sum sum is)

-- which follows those before it within the limit that all of them keep
pub follows : (draft : Draft) (sums : List LocationSum) (at : ℕ) (sum : LocationSum)
    → slice_get sums at ≡ Some sum → total_of_sums sums < 2 ^ 63
    → total_of (rows_of_sums draft (take at sums)) + sum.weight < 2 ^ 63
follows draft sums at sum is fits =
    let within = sum_by_more_le (λ (sum : LocationSum). sum.weight) sums at sum in
    let lt = slice_get_within sums at sum is in
    let own = ap (λ (s : LocationSum). s.weight) (get_or_from_slice_get sums at sum sum is) in
    let total = total_of-rows draft (take at sums) in
    grind (arith, common_steps)

-- one without weight adds nothing
pub merged-none : (rows sums : List WeightedStack) (row : WeightedStack) → row.weight ≡ 0
    → AreMergedSoFar rows sums → AreMergedSoFar (rows ++ row ∷ []) sums
merged-none rows sums row nothing so_far = record {
  weights = λ stack. grind (arith, common_steps, weight_where-push, so_far.weights stack);
  total = grind (arith, common_steps, sum_by_push, so_far.total);
}
