-- Rows in order, each of some weight, are the rows of their own aggregate; and what a query keeps of them is such a
-- list too.
use Rattle.std.proofs.lemmas.Grind.{common_steps}
use Rattle.std.proofs.Common.{◌≡◌, ℕ, ◌<◌, List, [], ◌∷◌, map, Option}
use Rattle.std.proofs.Common.{sym, ap, ◌∙◌, subst, arith}
use Rattle.std.specs.Prelude.{T, unwrap_or}
use Rattle.std.specs.List.{AllByRecursion}
use Rattle.std.specs.declared.cmp.Ordering.TheVariants.{Less}
use Rattle.std.specs.FinMap as finite
use Rattle.std.specs.FinMap.{is_sorted, entries-from_sorted, entries_sorted, get-from_sorted}
use Rattle.std.proofs.lemmas.List.Elements.{recursion_from_All, All-from_recursion, All-filter}
use Rattle.std.proofs.lemmas.List.Kept.{AllPairs-filter}
use Rattle.profile_rows.specs.declared.weighted_stacks.WeightedStack.{WeightedStack}
use Rattle.profile_rows.specs.Rows.{stack_cmp, is_kept, kept_rows}
use Rattle.profile_rows.specs.Aggregate.{AreWeighty, IsAscending, Weighted}
use Rattle.profile_rows.specs.Aggregate.{aggregate_of, row_of, rows_of}
use Rattle.profile_rows.proofs.EntryLaws.{Entry, entries_back, entry, sorted_rows}
use Rattle.profile_rows.proofs.EntryLaws.{rising_keys, rows_back, weight_found}
use Rattle.profile_rows.proofs.RowLaws.{Weighs, aggregate-weighs, same_weighted, weight_in-aggregate_of}

-- ---- the rows of a map are in order

pub rows_of-IsAscending : (weights : Weighted) → IsAscending (rows_of weights)
rows_of-IsAscending weights =
    rising_keys (λ (row : WeightedStack). row.stack) (λ (row : WeightedStack). row.weight) (rows_of weights)
    (subst (λ es. T (is_sorted stack_cmp es)) (sym (rows_back (finite.entries weights))) (entries_sorted weights))

-- ---- and each weighs something

rows-weigh : (es : List Entry)
    → AllByRecursion Weighs es → AllByRecursion (λ (row : WeightedStack). 0 < row.weight) (map row_of es)
rows-weigh [] all = tt
rows-weigh (e ∷ es) all = (all.0, rows-weigh es all.1)

pub rows_of-AreWeighty : (rows : List WeightedStack) → AreWeighty (rows_of (aggregate_of rows))
rows_of-AreWeighty rows = grind (arith, common_steps, All-from_recursion, aggregate-weighs, rows-weigh)

-- ---- what is kept of them

pub kept_rows-IsAscending : (focus ignored : Option (List ℕ)) (rows : List WeightedStack)
    → IsAscending rows → IsAscending (kept_rows focus ignored rows)
kept_rows-IsAscending focus ignored rows up = AllPairs-filter (λ (a b : WeightedStack). stack_cmp a.stack b.stack
    ≡ Less) (λ (row : WeightedStack). is_kept focus ignored row.stack) rows up

pub kept_rows-AreWeighty : (focus ignored : Option (List ℕ)) (rows : List WeightedStack)
    → AreWeighty rows → AreWeighty (kept_rows focus ignored rows)
kept_rows-AreWeighty focus ignored rows all = All-filter
    (λ (row : WeightedStack). is_kept focus ignored row.stack) (λ (row : WeightedStack). 0 < row.weight) rows all

-- ---- rows in order are those of their own aggregate

entries-weigh : (rows : List WeightedStack)
    → AllByRecursion (λ (row : WeightedStack). 0 < row.weight) rows → AllByRecursion Weighs (map entry rows)
entries-weigh [] all = tt
entries-weigh (row ∷ rows) all = (all.0, entries-weigh rows all.1)

pub rows_of-aggregate : (rows : List WeightedStack)
    → IsAscending rows → AreWeighty rows → rows_of (aggregate_of rows) ≡ rows
rows_of-aggregate rows up all =
    let es = map entry rows in
    let sorted = sorted_rows rows up in
    let found = λ (stack : List (List ℕ)). get-from_sorted stack_cmp (map entry rows) stack sorted in
    let weigh = entries-weigh rows
    (recursion_from_All (λ (row : WeightedStack). 0 < row.weight) rows all) in
    let same : aggregate_of rows ≡ finite.from_sorted (map entry rows) =
    same_weighted (aggregate_of rows) (finite.from_sorted (map entry rows)) (aggregate-weighs rows)
    (subst (AllByRecursion Weighs) (sym (entries-from_sorted stack_cmp (map entry rows) sorted)) weigh)
    (λ stack. weight_in-aggregate_of rows stack ∙ weight_found stack rows up
    ∙ ap (λ o. unwrap_or o 0) (sym (found stack))) in
    ap rows_of same ∙ ap (map row_of) (entries-from_sorted stack_cmp (map entry rows) sorted) ∙ entries_back rows
