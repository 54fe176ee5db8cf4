-- Rows of one width are known by the maps of their values.
use Rattle.std.proofs.Common.{rules, ◌≡◌, ℕ, suc, true, false, cond, List, [], ◌∷◌, length, map, Option, Some}
use Rattle.std.proofs.Common.{None, refl, sym, ap, ◌∙◌, arith}
use Rattle.std.specs.Option.{unwrap_or, IfSome}
use Rattle.std.specs.Prelude.{T}
use Rattle.std.specs.List.{All, AllPairs}
use Rattle.std.specs.declared.cmp.Ordering.TheVariants.{Less}
use Rattle.std.specs.FinMap.{find, is_sorted}
use Rattle.std.specs.FinMap.Entries.{same_entries}
use Rattle.profile_rows.specs.Rows.{stack_cmp, is_same_stack, weight_of}
use Rattle.profile_rows.specs.Values.{Row, rows_at, value_of}
use Rattle.profile_rows.specs.Aggregate.{AreRowsOf, HasWeight, Weighted}
use Rattle.profile_rows.proofs.EntryLaws.{entry, pairs-map, sorted_keys, weight_found, weight_where-same}
use Rattle.profile_rows.proofs.RowLaws.{stack_cmp_apart, stack_cmp_total}

abbrev RowEntry : Type 0
RowEntry = List (List ℕ) × List ℕ

abbrev row_entry : Row → RowEntry
row_entry row = (row.stack, row.weights)

abbrev entry_row : RowEntry → Row
entry_row entry = record { stack = entry.0; weights = entry.1 }

rows_again : (rows : List Row) → map entry_row (map row_entry rows) ≡ rows
rows_again [] = refl
rows_again (row ∷ rows) = ap (λ rest. row ∷ rest) (rows_again rows)

-- each stack is below those after it
abbrev Ascends : List Row → Type 0
Ascends rows = AllPairs (λ (row after : Row). stack_cmp row.stack after.stack ≡ Less) rows

sorted : (rows : List Row) → Ascends rows → T (is_sorted stack_cmp (map row_entry rows))
sorted rows up =
    sorted_keys (map row_entry rows) (pairs-map (λ (a b : RowEntry). stack_cmp a.0 b.0 ≡ Less) row_entry rows up)

-- what is found at a stack is its weight
found_value : (value : ℕ) (stack : List (List ℕ)) (rows : List Row)
    → unwrap_or (find stack_cmp stack (map entry (rows_at value rows))) 0
    ≡ value_of value (unwrap_or (find stack_cmp stack (map row_entry rows)) [])
found_value value stack [] = refl
found_value value stack (row ∷ rows) = grind (arith, entry, found_value value stack rows)

found-weight : (value : ℕ) (stack : List (List ℕ)) (rows : List Row) → Ascends rows
    → value_of value (unwrap_or (find stack_cmp stack (map row_entry rows)) []) ≡ weight_of (rows_at value rows) stack
found-weight value stack rows up = search (rules, pairs-map, weight_found, found_value)

-- what is found has the rows' width, and some value above 0
abbrev IsHeld : ℕ → List ℕ → Type 0
IsHeld width weights = (length weights ≡ width) × HasWeight weights

found-IsHeld : (width : ℕ) (stack : List (List ℕ)) (rows : List Row)
    → All (λ row. length row.weights ≡ width) rows → All (λ (row : Row). HasWeight row.weights) rows
    → IfSome (find stack_cmp stack (map row_entry rows)) (IsHeld width)
found-IsHeld width stack [] widths weighty = tt
found-IsHeld width stack (row ∷ rows) widths weighty =
    let rest = found-IsHeld width stack rows
    (λ k d lt. widths (suc k) d (omega arith)) (λ k d lt. weighty (suc k) d (omega arith)) in
    let size : length row.weights ≡ width = widths 0 row (omega arith) in
    let some : HasWeight row.weights = weighty 0 row (omega arith) in
    elim (is_same_stack stack row.stack) as (λ b. IfSome
    (cond b (Some row.weights) (find stack_cmp stack (map row_entry rows))) (IsHeld width)) [
      | true ↦ (size, some)
      | false ↦ rest
    ]

same_values : (a b : List ℕ) → length a ≡ length b → ((value : ℕ) → value_of value a ≡ value_of value b) → a ≡ b
same_values [] [] size same = refl
same_values [] (y ∷ b) size same = absurd (omega arith)
same_values (x ∷ a) [] size same = absurd (omega arith)
same_values (x ∷ a) (y ∷ b) size same = let first : x ≡ y = same 0 in
    let rest = same_values a b (omega arith) (λ value. same (suc value)) in
    λ i. first i ∷ rest i

none_found : (weights : List ℕ) → HasWeight weights → ((value : ℕ) → value_of value weights ≡ 0) → ⊥
none_found weights some none = let zeros = none some.0 in let above = some.1 in omega (arith, zeros, above)

same_found : (width : ℕ) (o p : Option (List ℕ)) → IfSome o (IsHeld width) → IfSome p (IsHeld width)
    → ((value : ℕ) → value_of value (unwrap_or o []) ≡ value_of value (unwrap_or p [])) → o ≡ p
same_found width None None h k same = refl
same_found width None (Some b) h k same = absurd (none_found b k.1 (λ value. sym (same value)))
same_found width (Some a) None h k same = absurd (none_found a h.1 same)
same_found width (Some a) (Some b) h k same = ap Some (same_values a b (h.0 ∙ sym k.0) same)

pub same_rows : (width : ℕ) (weights : ℕ → Weighted) (rows others : List Row)
    → All (λ row. length row.weights ≡ width) rows → All (λ row. length row.weights ≡ width) others
    → AreRowsOf weights rows → AreRowsOf weights others → rows ≡ others
same_rows width weights rows others widths other_widths are other_are =
    let found : (stack : List (List ℕ))
    → find stack_cmp stack (map row_entry rows) ≡ find stack_cmp stack (map row_entry others) = λ stack.
    same_found width _ _ (found-IsHeld width stack rows widths are.weighty)
    (found-IsHeld width stack others other_widths other_are.weighty)
    (λ value. found-weight value stack rows are.ascending
    ∙ weight_where-same
    (is_same_stack stack) (rows_at value rows) (rows_at value others) (are.each value ∙ sym (other_are.each value))
    ∙ sym (found-weight value stack others other_are.ascending)) in
    let entries = same_entries stack_cmp stack_cmp_total stack_cmp_apart (map row_entry rows) (map row_entry others)
    (sorted rows are.ascending) (sorted others other_are.ascending) found in
    sym (rows_again rows) ∙ ap (map entry_row) entries ∙ rows_again others
