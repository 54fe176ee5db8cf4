-- What rows weigh, and the maps that they add up to.
use Rattle.std.proofs.lemmas.Grind.{common_steps}
use Rattle.std.proofs.Common.{rules, ◌≡◌, ◌≢◌, ℕ, ◌+◌, ◌<◌, ◌≤◌, Bool, true, false, cond, ltb, List, [], ◌∷◌, ◌++◌}
use Rattle.std.proofs.Common.{length}
use Rattle.std.proofs.Common.{get_or, Option, Some, None, refl, sym, ap, ◌∙◌, subst, arith}
use Rattle.std.specs.Option.{unwrap_or}
use Rattle.std.specs.List.{AllByRecursion}
use Rattle.std.specs.FinMap as finite
use Rattle.std.specs.FinMap.{put, find, entries-insert, entries_sorted, get-entries, same_map}
use Rattle.std.proofs.lemmas.List.Sums.{sum_by-cons, sum_by_push, sum_by-set, sum_by-le-sum_by}
use Rattle.std.proofs.Math.ListN.{set}
use Rattle.std.proofs.lemmas.Bool.{ltb-true}
use Rattle.profile_rows.specs.declared.weighted_stacks.WeightedStack.{WeightedStack}
use Rattle.profile_rows.specs.Names.{is_same_name}
use Rattle.profile_rows.specs.Rows.{ends_with_name, is_same_stack, stack_cmp, total_of}
use Rattle.profile_rows.specs.Rows.{weight_if, weight_of, weight_where}
use Rattle.profile_rows.specs.Aggregate.{Weighted, weight_in, with_row, with_rows, aggregate_of}
use Rattle.profile_rows.proofs.EntryLaws.{Entry, entries_where, entries_where-aggregate_of, entries_where-with_rows}
use Rattle.profile_rows.proofs.EntryLaws.{no_entries, sum_found}
pub use Rattle.profile_rows.proofs.StackLaws.{stack_cmp_total, stack_cmp_apart}
pub use Rattle.profile_rows.proofs.StackLaws.{same_from_is_same_stack, is_same_stack-self}

-- a stack ends with the name that was put after its last
pub ends_with_name-push : (name : List ℕ) (callers : List (List ℕ)) (leaf : List ℕ)
    → ends_with_name name (callers ++ leaf ∷ []) ≡ is_same_name name leaf
ends_with_name-push name [] leaf = refl
ends_with_name-push name (caller ∷ []) leaf = refl
ends_with_name-push name (caller ∷ next ∷ callers) leaf = ends_with_name-push name (next ∷ callers) leaf

-- what a map has of a stack is the sum over its entries of that stack
weight_in-entries : (m : Weighted) (s : List (List ℕ)) → weight_in m s ≡ entries_where (is_same_stack s) m
weight_in-entries m s = ap (λ o. unwrap_or o 0) (get-entries m s)
    ∙ sym (sum_found s (finite.entries m) (entries_sorted m))

pub weight_in-aggregate_of : (rows : List WeightedStack) (s : List (List ℕ))
    → weight_in (aggregate_of rows) s ≡ weight_of rows s
weight_in-aggregate_of rows s =
    weight_in-entries (aggregate_of rows) s ∙ entries_where-aggregate_of (is_same_stack s) rows

-- ---- each entry weighs something

abbrev pub Weighs : Entry → Type 0
Weighs e = 0 < e.1

put-weighs : (k : List (List ℕ)) (v : ℕ) (es : List Entry)
    → 0 < v → AllByRecursion Weighs es → AllByRecursion Weighs (put stack_cmp k v es)
put-weighs k v [] some all = (some, tt)
put-weighs k v (e ∷ es) some all = grind (arith, common_steps, put-weighs k v es some all.1)

with_row-weighs : (m : Weighted) (row : WeightedStack)
    → AllByRecursion Weighs (finite.entries m) → AllByRecursion Weighs (finite.entries (with_row m row))
with_row-weighs m row all =
    elim (ltb 0 row.weight) as (λ b. ltb 0 row.weight ≡ b → AllByRecursion Weighs
    (finite.entries (cond b (finite.insert m row.stack (weight_in m row.stack + row.weight)) m))) [
      | true ↦ λ e. subst (AllByRecursion Weighs)
          (sym (entries-insert stack_cmp_total m row.stack (weight_in m row.stack + row.weight)))
          (put-weighs row.stack (weight_in m row.stack + row.weight)
          (finite.entries m) (let some = ltb-true 0 row.weight e in omega arith) all)
      | false ↦ λ e. all
    ] refl

pub with_rows-weighs : (m : Weighted) (rows : List WeightedStack)
    → AllByRecursion Weighs (finite.entries m) → AllByRecursion Weighs (finite.entries (with_rows m rows))
with_rows-weighs m [] all = all
with_rows-weighs m (row ∷ rows) all = with_rows-weighs (with_row m row) rows (with_row-weighs m row all)

pub aggregate-weighs : (rows : List WeightedStack) → AllByRecursion Weighs (finite.entries (aggregate_of rows))
aggregate-weighs rows = with_rows-weighs finite.empty rows (subst (AllByRecursion Weighs) (sym no_entries) tt)

some_found : (stack : List (List ℕ)) (es : List Entry) → AllByRecursion Weighs es → find stack_cmp stack es ≢ Some 0
some_found stack [] all = λ is. cc
some_found stack (e ∷ es) all = grind (arith, some_found stack es all.1)

same_option : (o p : Option ℕ) → o ≢ Some 0 → p ≢ Some 0 → unwrap_or o 0 ≡ unwrap_or p 0 → o ≡ p
same_option None None h k e = refl
same_option None (Some y) h k e = absurd (k (ap Some (sym e)))
same_option (Some x) None h k e = absurd (h (ap Some e))
same_option (Some x) (Some y) h k e = ap Some e

-- two such maps with one weight for each stack are one map
pub same_weighted : (m n : Weighted)
    → AllByRecursion Weighs (finite.entries m) → AllByRecursion Weighs (finite.entries n)
    → ((s : List (List ℕ)) → weight_in m s ≡ weight_in n s) → m ≡ n
same_weighted m n h k e =
    same_map stack_cmp_total stack_cmp_apart m n (λ s.
    same_option (finite.get m s) (finite.get n s)
    (λ is. some_found s (finite.entries m) h (sym (get-entries m s) ∙ is))
    (λ is. some_found s (finite.entries n) k (sym (get-entries n s) ∙ is)) (e s))

-- rows that weigh the same at each stack add up to one map
pub aggregate_of-same : (rows others : List WeightedStack)
    → ((s : List (List ℕ)) → weight_of rows s ≡ weight_of others s) → aggregate_of rows ≡ aggregate_of others
aggregate_of-same rows others e = search (rules, weight_in-aggregate_of, aggregate-weighs, same_weighted)

pub aggregate_of-more : (rows added all : List WeightedStack)
    → ((s : List (List ℕ)) → weight_of all s ≡ weight_of rows s + weight_of added s)
    → aggregate_of all ≡ with_rows (aggregate_of rows) added
aggregate_of-more rows added all e =
    same_weighted _ _ (aggregate-weighs all) (with_rows-weighs _ added (aggregate-weighs rows))
    (λ s. weight_in-aggregate_of all s ∙ e s ∙ sym (weight_in-entries (with_rows (aggregate_of rows) added) s
    ∙ entries_where-with_rows (is_same_stack s) (aggregate_of rows) added
    ∙ ap (λ x. x + weight_of added s) (entries_where-aggregate_of (is_same_stack s) rows)))

-- ---- a row written, and a row added

pub weight_where-set : (test : List (List ℕ) → Bool) (rows : List WeightedStack) (k : ℕ) (row d : WeightedStack)
    → k < length rows
    → weight_where test (set rows k row) + weight_if test (get_or rows k d)
    ≡ weight_where test rows + weight_if test row
weight_where-set test rows k row d lt = sum_by-set (weight_if test) rows k row d lt

pub weight_where-push : (test : List (List ℕ) → Bool) (rows : List WeightedStack) (row : WeightedStack)
    → weight_where test (rows ++ row ∷ []) ≡ weight_where test rows + weight_if test row
weight_where-push test rows row = sum_by_push (weight_if test) rows row

pub weight_where-one : (test : List (List ℕ) → Bool) (row : WeightedStack)
    → weight_where test (row ∷ []) ≡ weight_if test row
weight_where-one test row = omega (arith, sum_by-cons (weight_if test) row [])

-- more rows are added in their order
pub with_rows-append : (m : Weighted) (rows more : List WeightedStack)
    → with_rows m (rows ++ more) ≡ with_rows (with_rows m rows) more
with_rows-append m [] more = refl
with_rows-append m (row ∷ rows) more = with_rows-append (with_row m row) rows more

pub weight_where-le-total : (test : List (List ℕ) → Bool) (rows : List WeightedStack)
    → weight_where test rows ≤ total_of rows
weight_where-le-total test rows = grind (arith, common_steps, sum_by-le-sum_by)
