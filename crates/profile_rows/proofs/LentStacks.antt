-- The map of lent stacks holds the sum of each value of the rows so far.
use Rattle.std.proofs.lemmas.Grind.{common_steps}
use Rattle.std.proofs.Common.{◌≡◌, ℕ, zero, suc, ◌+◌, ◌^◌, ◌<◌, Bool, true, false, cond, List, [], ◌∷◌, ◌++◌, length}
use Rattle.std.proofs.Common.{Some, take, map, refl, sym, ap, ◌∙◌, subst, arith, sum_by}
use Rattle.std.specs.Option.{unwrap_or}
use Rattle.std.specs.Prelude.{T}
use Rattle.std.specs.Map.{lookup, values_of}
use Rattle.std.specs.List.{All, AllPairs}
use Rattle.std.specs.declared.cmp.Ordering.{Ordering}
use Rattle.std.specs.declared.cmp.Ordering.TheVariants.{Less}
use Rattle.std.specs.Ordering.{is_eq}
use Rattle.std.specs.BTreeMap.{insert_entry}
use Rattle.std.specs.FinMap.{find, put, is_sorted}
use Rattle.std.specs.FinMap.Entries.{is_sorted-put}
use Rattle.std.proofs.lemmas.List.{map-append, take-map, take_more}
use Rattle.std.proofs.lemmas.List.Sums.{sum_by-take-le}
use Rattle.std.proofs.lemmas.Map.Views.{All-values-insert_entry}
use denote.Ref.{Bor}
use Rattle.profile_rows.specs.declared.weighted_stacks.WeightedStack.{WeightedStack}
use Rattle.profile_rows.specs.Rows.{stack_cmp, is_same_stack, total_of, weight_if, weight_where}
use Rattle.profile_rows.specs.Values.{Row, row_in, rows_at, value_of, weighing}
use Rattle.profile_rows.specs.Aggregate.{AreRowsOf, HasWeight, aggregates_of, row_of}
use Rattle.profile_rows.specs.LentStacks.{lent_row}
use Rattle.profile_rows.proofs.EntryLaws.{Entry, entry_if, nothing, put_more, sum_put}
use Rattle.profile_rows.proofs.EntryLaws.{pairs-map, rising_keys, weight_where-entries}
use Rattle.profile_rows.proofs.RowLaws.{stack_cmp_total, aggregate_of-same, weight_where-push}
use Rattle.profile_rows.proofs.RowValues.{total_of-push}

abbrev LentStack : Type 0
LentStack = Bor (List (List ℕ))

abbrev LentEntry : Type 0
LentEntry = LentStack × List ℕ

abbrev lent_cmp : LentStack → LentStack → Ordering
lent_cmp a b = stack_cmp a.now b.now

-- the stacks and one of their values
abbrev pub at_value : ℕ → LentEntry → Entry
at_value value entry = (entry.0.now, value_of value entry.1)

abbrev pub by_value : ℕ → List LentEntry → List Entry
by_value value entries = map (at_value value) entries

rows_at-lent : (value : ℕ) (entries : List LentEntry)
    → rows_at value (map lent_row entries) ≡ map row_of (by_value value entries)
rows_at-lent value [] = refl
rows_at-lent value (e ∷ entries) = ap (λ rest. weighing value (lent_row e) ∷ rest) (rows_at-lent value entries)

-- the entries of a map have the sums of these rows, in which each stack has some value above 0
pub record HasSums (width : ℕ) (rows : List Row) (entries : List LentEntry) : Type 0 where
  pub widths : All (λ weights. length weights ≡ width) (values_of entries)
  pub weighty : All HasWeight (values_of entries)
  pub sorted : (value : ℕ) → T (is_sorted stack_cmp (by_value value entries))
  pub sums : (value : ℕ) (test : List (List ℕ) → Bool)
      → sum_by (entry_if test) (by_value value entries) ≡ weight_where test (rows_at value rows)

-- ---- what the map answers

pub held-value : (value : ℕ) (none : List ℕ) (stack : List (List ℕ)) (entries : List LentEntry)
    → value_of value none ≡ 0
    → value_of value (unwrap_or (lookup (λ key. is_eq (stack_cmp stack key.now)) entries) none)
    ≡ unwrap_or (find stack_cmp stack (by_value value entries)) 0
held-value value none stack [] zeros = zeros
held-value value none stack (e ∷ entries) zeros = grind (arith, common_steps, held-value value none stack entries zeros)

pub held-width : (width : ℕ) (none : List ℕ) (stack : List (List ℕ)) (entries : List LentEntry) → length none ≡ width
    → All (λ weights. length weights ≡ width) (values_of entries)
    → length (unwrap_or (lookup (λ key. is_eq (stack_cmp stack key.now)) entries) none) ≡ width
held-width width none stack [] size widths = size
held-width width none stack (e ∷ entries) size widths =
    let rest = held-width width none stack entries size (λ k d lt. widths (suc k) d (omega arith)) in
    let here : length e.1 ≡ width = widths 0 [] (omega arith) in
    elim (is_same_stack stack e.0.now) as (λ b. length
    (unwrap_or (cond b (Some e.1) (lookup (λ key. is_eq (stack_cmp stack key.now)) entries)) none) ≡ width) [
      | true ↦ here
      | false ↦ rest
    ]

-- ---- a row more

put_lent : (value : ℕ) (entries : List LentEntry) (key : LentStack) (weights : List ℕ)
    → by_value value (insert_entry lent_cmp entries key weights)
    ≡ put stack_cmp key.now (value_of value weights) (by_value value entries)
put_lent value [] key weights = refl
put_lent value (e ∷ entries) key weights = grind (arith, common_steps, put_lent value entries key weights)

weight_where-more : (value : ℕ) (test : List (List ℕ) → Bool) (rows : List Row) (row : Row)
    → weight_where test (rows_at value (rows ++ row ∷ []))
    ≡ weight_where test (rows_at value rows) + weight_if test (weighing value row)
weight_where-more value test rows row = grind (arith, common_steps, map-append, weight_where-push)

-- a row without a value above 0 changes nothing
pub HasSums-weightless : (width : ℕ) (rows all : List Row) (row : Row) (entries : List LentEntry)
    → ((value : ℕ) → value_of value row.weights ≡ 0)
    → all ≡ rows ++ row ∷ [] → HasSums width rows entries → HasSums width all entries
HasSums-weightless width rows all row entries none is held =
    subst (λ rows. HasSums width rows entries) (sym is) (record {
      widths = held.widths;
      weighty = held.weighty;
      sorted = held.sorted;
      sums = λ value test.
          let before = held.sums value test in
          let more = weight_where-more value test rows row in
          let here : weight_if test (weighing value row) ≡ 0 = ap (λ w. cond (test row.stack) w 0) (none value)
          ∙ nothing (test row.stack) in
          omega (arith, before, more, here);
    })

pub HasSums-weighted : (width : ℕ)
    (rows all : List Row) (row : Row) (entries after : List LentEntry) (key : LentStack) (held sum : List ℕ)
    → HasWeight row.weights → all ≡ rows ++ row ∷ [] → key.now ≡ row.stack
    → ((value : ℕ) → value_of value held ≡ unwrap_or (find stack_cmp row.stack (by_value value entries)) 0)
    → length sum ≡ width → ((value : ℕ) → value_of value sum ≡ value_of value held + value_of value row.weights)
    → after ≡ insert_entry lent_cmp entries key sum → HasSums width rows entries → HasSums width all after
HasSums-weighted width rows all row entries after key held sum some is key_is held_is size sum_is after_is so_far =
    subst (λ es. HasSums width all es)
    (sym after_is) (subst (λ rows. HasSums width rows (insert_entry lent_cmp entries key sum)) (sym is) (record {
      widths = All-values-insert_entry lent_cmp key sum (λ weights. length weights ≡ width) entries so_far.widths size;
      weighty = All-values-insert_entry lent_cmp key sum HasWeight entries so_far.weighty
          (let more = sum_is some.0 in let above = some.1 in (some.0, omega (arith, more, above)));
      sorted = λ value. subst (λ es. T (is_sorted stack_cmp es)) (sym (put_lent value entries key sum))
          (is_sorted-put stack_cmp stack_cmp_total key.now
          (value_of value sum) (by_value value entries) (so_far.sorted value));
      sums = λ value test.
          let put_is : by_value value (insert_entry lent_cmp entries key sum)
          ≡ put stack_cmp row.stack (value_of value held + value_of value row.weights) (by_value value entries) =
          put_lent value entries key sum ∙ (λ i. put stack_cmp (key_is i) (sum_is value i) (by_value value entries)) in
          let more = weight_where-more value test rows row in
          let before = so_far.sums value test in
          let put_sum = sum_put test row.stack
          (value_of value held + value_of value row.weights) (by_value value entries) (so_far.sorted value) in
          let put_held : sum_by (entry_if test) (put stack_cmp row.stack (value_of value held
          + value_of value row.weights) (by_value value entries)) + cond (test row.stack) (value_of value held) 0
          ≡ sum_by (entry_if test)
          (by_value value entries) + cond (test row.stack) (value_of value held + value_of value row.weights) 0 =
          ap (λ n. sum_by (entry_if test) (put stack_cmp row.stack (value_of value held + value_of value row.weights)
          (by_value value entries)) + cond (test row.stack) n 0) (held_is value) ∙ put_sum in
          let here = put_more (test row.stack) (sum_by (entry_if test) (by_value value entries))
          (value_of value held) (value_of value row.weights) _ put_held in
          ap (sum_by (entry_if test)) put_is
          ∙ here ∙ ap (λ n. n + weight_if test (weighing value row)) before ∙ sym more;
    }))

-- ---- what a stack weighs fits

pub next_row : (rows : List Row) (k : ℕ) → k < length rows → take (k + 1) rows ≡ take k rows ++ row_in rows k ∷ []
next_row rows k lt = take_more rows k (record { stack = []; weights = [] }) lt

pub held-fits : (width : ℕ) (rows : List Row) (k : ℕ) (entries : List LentEntry) (value : ℕ) (held : ℕ)
    → k < length rows → HasSums width (take k rows) entries
    → total_of (rows_at value rows) < 2 ^ 63
    → held ≡ unwrap_or (find stack_cmp (row_in rows k).stack (by_value value entries)) 0
    → held + value_of value (row_in rows k).weights < 2 ^ 63
held-fits width rows k entries value held lt so_far fits held_is =
    let put_none = sum_put (λ stack. true) (row_in rows k).stack 0 (by_value value entries) (so_far.sorted value) in
    let sums : sum_by (entry_if (λ stack. true)) (by_value value entries) ≡ total_of (rows_at value (take k rows)) =
    so_far.sums value (λ stack. true) in
    let most = sum_by-take-le (λ (r : WeightedStack). r.weight) (rows_at value rows) (k + 1) in
    let front : total_of (rows_at value (take (k + 1) rows)) ≡ total_of (take (k + 1) (rows_at value rows)) =
    ap total_of (sym (take-map (weighing value) (k + 1) rows)) in
    let next : total_of (rows_at value (take (k + 1) rows))
    ≡ total_of (rows_at value (take k rows)) + value_of value (row_in rows k).weights =
    ap (λ rs. total_of (rows_at value rs)) (next_row rows k lt) ∙ total_of-push value (take k rows) (row_in rows k) in
    omega (arith, put_none, sums, most, front, next, fits, held_is)

-- ---- the rows of the map

weighty_rows : (entries : List LentEntry)
    → All HasWeight (values_of entries) → All (λ (row : Row). HasWeight row.weights) (map lent_row entries)
weighty_rows [] all k d lt = absurd (omega arith)
weighty_rows (e ∷ entries) all zero d lt = all 0 [] (omega arith)
weighty_rows (e ∷ entries) all (suc k) d lt =
    weighty_rows entries (λ k d lt. all (suc k) d (omega arith)) k d (omega arith)

ascending_rows : (entries : List LentEntry) → T (is_sorted stack_cmp (by_value 0 entries))
    → AllPairs (λ (row after : Row). stack_cmp row.stack after.stack ≡ Less) (map lent_row entries)
ascending_rows entries up =
    pairs-map (λ (row after : Row). stack_cmp row.stack after.stack ≡ Less) lent_row entries
    (rising_keys (λ (e : LentEntry). e.0.now) (λ (e : LentEntry). value_of 0 e.1) entries up)

-- the rows of the map are those of the aggregate of each value
pub HasSums-AreRowsOf : (width : ℕ) (rows : List Row) (entries : List LentEntry)
    → HasSums width rows entries → AreRowsOf (aggregates_of rows) (map lent_row entries)
HasSums-AreRowsOf width rows entries held =
    grind (arith, common_steps, weight_where-entries, aggregate_of-same, rows_at-lent, weighty_rows, ascending_rows)

pub no_weight : (weights : List ℕ) → (HasWeight weights → ⊥) → (value : ℕ) → value_of value weights ≡ 0
no_weight weights none value = grind (arith, common_steps)
