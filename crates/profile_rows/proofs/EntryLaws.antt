-- A sum over rows is the sum over the entries of the map that they add up to.
use Rattle.std.proofs.lemmas.Grind.{common_steps}
use Rattle.std.proofs.Common.{rules, ◌≡◌, ℕ, zero, suc, ◌+◌, ◌<◌, ◌≤◌, get_or, length, Bool, true, false, cond, ◌&&◌}
use Rattle.std.proofs.Common.{ltb, List, [], ◌∷◌, Some, None, refl, sym, ap}
use Rattle.std.proofs.Common.{◌∙◌, arith, subst, sum_by, map}
use Rattle.std.specs.Option.{unwrap_or}
use Rattle.std.specs.declared.cmp.Ordering.{Ordering}
use Rattle.std.specs.Ordering.{is_eq, is_lt}
use Rattle.std.specs.declared.cmp.Ordering.TheVariants.{Less, Equal, Greater}
use Rattle.std.specs.FinMap as finite
use Rattle.std.specs.FinMap.{put, find, is_sorted, entries-insert, get-entries, entries_sorted, len-entries, len-empty}
use Rattle.std.specs.FinMap.Entries.{below_all, by_order}
use Rattle.std.specs.List.{All, AllPairs}
use Rattle.std.proofs.lemmas.List.Elements.{All-map}
use Rattle.std.proofs.lemmas.List.Kept.{AllPairs-cons}
use Rattle.std.proofs.lemmas.List.{nil_from_length}
use Rattle.std.specs.Prelude.{T}
use Rattle.std.proofs.lemmas.List.Sums.{sum_by-cons}
use Rattle.profile_rows.specs.declared.weighted_stacks.WeightedStack.{WeightedStack}
use Rattle.profile_rows.specs.Rows.{is_same_stack, stack_cmp, weight_if, weight_of, weight_where}
use Rattle.profile_rows.specs.Aggregate.{IsAscending, Weighted, weight_in, with_row, with_rows, aggregate_of, row_of}
use Rattle.profile_rows.specs.Aggregate.{rows_of}
use Rattle.std.proofs.lemmas.Bool.{ltb-false}
use Rattle.profile_rows.proofs.StackLaws.{stack_cmp_total, stack_cmp_apart, same_from_is_same_stack}

abbrev pub Entry : Type 0
Entry = List (List ℕ) × ℕ

pub no_entries : finite.entries (finite.empty {X = ℕ} {R = stack_cmp}) ≡ []
no_entries = nil_from_length _ (sym (len-entries finite.empty) ∙ len-empty stack_cmp ℕ)

abbrev pub entry_if : (List (List ℕ) → Bool) → Entry → ℕ
entry_if test entry = cond (test entry.0) entry.1 0

-- a sum over the entries of a map
abbrev pub entries_where : (List (List ℕ) → Bool) → Weighted → ℕ
entries_where test weighted = sum_by (entry_if test) (finite.entries weighted)

pub less : (o : Ordering) → T (is_lt o) → o ≡ Less
less Less p = refl
less Equal p = absurd p
less Greater p = absurd p

pub first : (a b : Bool) → T (a && b) → T a
first true b p = tt
first false b p = p

pub second : (a b : Bool) → T (a && b) → T b
second true b p = p
second false b p = absurd p

sorted_head : (e f : Entry) (es : List Entry) → T (is_sorted stack_cmp (e ∷ f ∷ es)) → stack_cmp e.0 f.0 ≡ Less
sorted_head e f es h = less _ (first _ _ (first _ _ h))

none_below : (k : List (List ℕ)) (e : Entry) (es : List Entry)
    → stack_cmp k e.0 ≡ Less → T (is_sorted stack_cmp (e ∷ es)) → find stack_cmp k es ≡ None
none_below k e [] lt h = refl
none_below k e (f ∷ es) lt h = grind (arith, stack_cmp_total, second, sorted_head, none_below k f es)

pub nothing : (b : Bool) → let none : ℕ = 0 in cond b none none ≡ none
nothing true = refl
nothing false = refl

pub sum_put : (test : List (List ℕ) → Bool) (k : List (List ℕ)) (v : ℕ) (es : List Entry) → T (is_sorted stack_cmp es)
    → sum_by (entry_if test) (put stack_cmp k v es) + cond (test k) (unwrap_or (find stack_cmp k es) 0) 0
    ≡ sum_by (entry_if test) es + cond (test k) v 0
sum_put test k v [] h =
    let one = sum_by-cons (entry_if test) (k, v) [] in let none = nothing (test k) in omega (arith, one, none)
sum_put test k v (e ∷ es) h =
    elim (stack_cmp k e.0) as (λ o. stack_cmp k e.0 ≡ o
    → sum_by (entry_if test) (by_order o ((k, v) ∷ e ∷ es) ((e.0, v) ∷ es) (e ∷ put stack_cmp k v es))
    + cond (test k) (unwrap_or (cond (is_eq o) (Some e.1) (find stack_cmp k es)) 0) 0
    ≡ sum_by (entry_if test) (e ∷ es) + cond (test k) v 0) [
      | Less ↦ λ o.
          let none : cond (test k) (unwrap_or (find stack_cmp k es) 0) 0 ≡ 0 =
          ap (λ f. cond (test k) (unwrap_or f 0) 0) (none_below k e es o h) ∙ nothing (test k) in
          let cons = sum_by-cons (entry_if test) (k, v) (e ∷ es) in
          omega (arith, none, cons)
      | Equal ↦ λ o.
          let key : k ≡ e.0 = stack_cmp_apart k e.0 o in
          let new = sum_by-cons (entry_if test) (e.0, v) es in
          let old = sum_by-cons (entry_if test) e es in
          let test_new : cond (test e.0) v 0 ≡ cond (test k) v 0 = ap (λ s. cond (test s) v 0) (sym key) in
          let test_old : cond (test e.0) e.1 0 ≡ cond (test k) e.1 0 = ap (λ s. cond (test s) e.1 0) (sym key) in
          omega (arith, new, old, test_new, test_old)
      | Greater ↦ λ o.
          let rest = sum_put test k v es (second _ _ h) in
          let new = sum_by-cons (entry_if test) e (put stack_cmp k v es) in
          let old = sum_by-cons (entry_if test) e es in
          omega (arith, rest, new, old)
    ] refl

pub put_more : (b : Bool) (s a w t : ℕ) → t + cond b a 0 ≡ s + cond b (a + w) 0 → t ≡ s + cond b w 0
put_more true s a w t e = omega arith
put_more false s a w t e = omega arith

no_more : (w a : ℕ) (b : Bool) → ltb 0 w ≡ false → a ≡ a + cond b w 0
no_more w a true e = let zero : w ≤ 0 = ltb-false 0 w e in omega arith
no_more w a false e = omega arith

pub entries_where-with_row : (test : List (List ℕ) → Bool) (m : Weighted) (row : WeightedStack)
    → entries_where test (with_row m row) ≡ entries_where test m + weight_if test row
entries_where-with_row test m row =
    elim (ltb 0 row.weight) as (λ b. ltb 0 row.weight ≡ b → entries_where test (cond b (finite.insert m row.stack
    (weight_in m row.stack + row.weight)) m) ≡ entries_where test m + cond (test row.stack) row.weight 0) [
      | true ↦ λ e.
          ap (sum_by (entry_if test)) (entries-insert stack_cmp_total m row.stack (weight_in m row.stack + row.weight))
          ∙ put_more (test row.stack) _ (weight_in m row.stack) row.weight _
          (ap (λ o. sum_by (entry_if test) (put stack_cmp row.stack (weight_in m row.stack + row.weight)
          (finite.entries m)) + cond (test row.stack) (unwrap_or o 0) 0) (get-entries m row.stack)
          ∙ sum_put test row.stack (weight_in m row.stack + row.weight) (finite.entries m) (entries_sorted m))
      | false ↦ λ e. no_more row.weight (entries_where test m) (test row.stack) e
    ] refl

pub entries_where-with_rows : (test : List (List ℕ) → Bool) (m : Weighted) (rows : List WeightedStack)
    → entries_where test (with_rows m rows) ≡ entries_where test m + weight_where test rows
entries_where-with_rows test m [] = omega arith
entries_where-with_rows test m (row ∷ rows) =
    search (rules, sum_by-cons, entries_where-with_row, entries_where-with_rows test (with_row m row) rows)

-- the law: a sum over rows is one over the map
pub entries_where-aggregate_of : (test : List (List ℕ) → Bool) (rows : List WeightedStack)
    → entries_where test (aggregate_of rows) ≡ weight_where test rows
entries_where-aggregate_of test rows = grind (arith, common_steps, no_entries, entries_where-with_rows)

pub weight_where-same : (test : List (List ℕ) → Bool) (rows others : List WeightedStack)
    → aggregate_of rows ≡ aggregate_of others → weight_where test rows ≡ weight_where test others
weight_where-same test rows others e = sym (entries_where-aggregate_of test rows)
    ∙ ap (entries_where test) e ∙ entries_where-aggregate_of test others

-- the entries' rows weigh as much as the entries
pub weight_where-entries : (test : List (List ℕ) → Bool) (entries : List Entry)
    → weight_where test (map row_of entries) ≡ sum_by (entry_if test) entries
weight_where-entries test [] = refl
weight_where-entries test (entry ∷ entries) =
    grind (arith, common_steps, sum_by-cons, weight_where-entries test entries)

pub weight_where-rows_of : (test : List (List ℕ) → Bool) (rows : List WeightedStack)
    → weight_where test (rows_of (aggregate_of rows)) ≡ weight_where test rows
weight_where-rows_of test rows = weight_where-entries test (finite.entries (aggregate_of rows))
    ∙ entries_where-aggregate_of test rows

-- ---- entries in order

both : (a b : Bool) → T a → T b → T (a && b)
both true b p q = q
both false b p q = p

keys_above : {X : Type 0} (key : List (List ℕ)) (es : List (List (List ℕ) × X))
    → All (λ e. stack_cmp key e.0 ≡ Less) es → T (below_all stack_cmp key es)
keys_above key [] above = tt
keys_above key (e ∷ es) above =
    both _ _ (subst (λ o. T (is_lt o)) (sym (above 0 e (omega arith))) tt)
    (keys_above key es (λ k d lt. above (suc k) d (omega arith)))

pub sorted_keys : {X : Type 0} (es : List (List (List ℕ) × X))
    → AllPairs (λ e f. stack_cmp e.0 f.0 ≡ Less) es → T (is_sorted stack_cmp es)
sorted_keys [] up = tt
sorted_keys (e ∷ es) up =
    both _ _ (keys_above e.0 es (λ k d lt. up 0 (suc k) d (omega arith) (omega arith)))
    (sorted_keys es (λ i j d lt short. up (suc i) (suc j) d (omega arith) (omega arith)))

pub pairs-map : {A B : Type 0} (R : B → B → Type 0) (f : A → B) (xs : List A)
    → AllPairs (λ x y. R (f x) (f y)) xs → AllPairs R (map f xs)
pairs-map R f [] up = λ i j d lt short. absurd (omega arith)
pairs-map R f (x ∷ xs) up =
    AllPairs-cons R (f x) (map f xs)
    (All-map (R (f x)) f xs (λ k d lt. up 0 (suc k) d (omega arith) (omega arith)))
    (pairs-map R f xs (λ i j d lt short. up (suc i) (suc j) d (omega arith) (omega arith)))

above_keys : {A X : Type 0} (key : A → List (List ℕ)) (value : A → X) (stack : List (List ℕ)) (xs : List A)
    → T (below_all stack_cmp stack (map (λ x. (key x, value x)) xs)) → All (λ x. stack_cmp stack (key x) ≡ Less) xs
above_keys key value stack [] below = λ k d lt. absurd (omega arith)
above_keys key value stack (x ∷ xs) below = λ k d lt. elim k as (λ k. k < length (x ∷ xs)
    → stack_cmp stack (key (get_or (x ∷ xs) k d)) ≡ Less) [
      | zero ↦ λ lt. less _ (first _ _ below)
      | suc k ↦ λ lt. above_keys key value stack xs (second _ _ below) k d (omega arith)
    ] lt

-- what entries in order are made of is in the order of its stacks
pub rising_keys : {A X : Type 0} (key : A → List (List ℕ)) (value : A → X) (xs : List A)
    → T (is_sorted stack_cmp (map (λ x. (key x, value x)) xs)) → AllPairs (λ x y. stack_cmp (key x) (key y) ≡ Less) xs
rising_keys key value [] up = λ i j d lt short. absurd (omega arith)
rising_keys key value (x ∷ xs) up =
    AllPairs-cons (λ x y. stack_cmp (key x) (key y) ≡ Less) x xs
    (above_keys key value (key x) xs (first _ _ up)) (rising_keys key value xs (second _ _ up))

-- a row as an entry
abbrev pub entry : WeightedStack → Entry
entry row = (row.stack, row.weight)

pub rows_back : (entries : List Entry) → map entry (map row_of entries) ≡ entries
rows_back [] = refl
rows_back (e ∷ entries) = ap (λ more. e ∷ more) (rows_back entries)

pub entries_back : (rows : List WeightedStack) → map row_of (map entry rows) ≡ rows
entries_back [] = refl
entries_back (row ∷ rows) = ap (λ more. row ∷ more) (entries_back rows)

sum_below : (stack : List (List ℕ)) (es : List Entry)
    → T (below_all stack_cmp stack es) → sum_by (entry_if (is_same_stack stack)) es ≡ 0
sum_below stack [] below = refl
sum_below stack (e ∷ es) below =
    let cons = sum_by-cons (entry_if (is_same_stack stack)) e es in
    let here = ap (λ o. cond (is_eq o) e.1 0) (less (stack_cmp stack e.0) (first _ _ below)) in
    let rest = sum_below stack es (second _ _ below) in
    omega arith

pub sum_found : (stack : List (List ℕ)) (es : List Entry) → T (is_sorted stack_cmp es)
    → sum_by (entry_if (is_same_stack stack)) es ≡ unwrap_or (find stack_cmp stack es) 0
sum_found stack [] sorted = refl
sum_found stack (e ∷ es) sorted =
    let cons = sum_by-cons (entry_if (is_same_stack stack)) e es in
    elim (is_same_stack stack e.0) as (λ b. is_same_stack stack e.0 ≡ b → sum_by (entry_if (is_same_stack stack))
    (e ∷ es) ≡ unwrap_or (cond b (Some e.1) (find stack_cmp stack es)) 0) [
      | true ↦ λ same.
          let here = ap (λ b. cond b e.1 0) same in
          let none = ap (λ s. sum_by (entry_if (is_same_stack s)) es) (same_from_is_same_stack stack e.0 same)
          ∙ sum_below e.0 es (first _ _ sorted) in
          omega arith
      | false ↦ λ other.
          let here = ap (λ b. cond b e.1 0) other in
          let rest = sum_found stack es (second _ _ sorted) in
          omega arith
    ] refl

pub sorted_rows : (rows : List WeightedStack) → IsAscending rows → T (is_sorted stack_cmp (map entry rows))
sorted_rows rows up =
    sorted_keys (map entry rows) (pairs-map (λ (e f : Entry). stack_cmp e.0 f.0 ≡ Less) entry rows up)

-- what a stack weighs in rows in order stands at one of them
pub weight_found : (stack : List (List ℕ)) (rows : List WeightedStack) → IsAscending rows
    → weight_of rows stack ≡ unwrap_or (find stack_cmp stack (map entry rows)) 0
weight_found stack rows up = grind (arith, common_steps, weight_where-entries, entries_back, sum_found, sorted_rows)
