-- The aggregate, worked: the entries of its map are computed row by row, and compared with what was worked by hand.
use Rattle.std.proofs.Common.{◌≡◌, ◌+◌, true, false, cond, List, [], ◌∷◌, map, refl, ap, ◌∙◌, codes}
use Rattle.std.specs.Prelude.{nat_lt, unwrap_or}
use Rattle.std.specs.FinMap.{empty, entries, insert, put, find, entries-insert, get-entries}
use Rattle.profile_rows.specs.declared.weighted_stacks.WeightedStack.{WeightedStack}
use Rattle.profile_rows.specs.Aggregate.{Weighted, weight_in, with_row, with_rows, aggregate_of, row_of, rows_of}
use Rattle.profile_rows.specs.Rows.{stack_cmp}
use Rattle.profile_rows.proofs.EntryLaws.{Entry, no_entries}
use Rattle.profile_rows.proofs.RowLaws.{stack_cmp_total}
use Rattle.profile_rows.proofs.WorkedRows.{a, b, c, row}

-- the entries with a row more, computed on the list
abbrev entered : List Entry → WeightedStack → List Entry
entered es row =
    cond (nat_lt 0 row.weight) (put stack_cmp row.stack (unwrap_or (find stack_cmp row.stack es) 0 + row.weight) es) es

abbrev all_entered : List Entry → List WeightedStack → List Entry
all_entered es [] = es
all_entered es (row ∷ rows) = all_entered (entered es row) rows

entries-with_row : (m : Weighted) (row : WeightedStack) → entries (with_row m row) ≡ entered (entries m) row
entries-with_row m row =
    elim (nat_lt 0 row.weight) as (λ b. entries (cond b (insert m row.stack (weight_in m row.stack + row.weight)) m)
    ≡ cond b (put stack_cmp row.stack (unwrap_or (find stack_cmp row.stack (entries m)) 0 + row.weight) (entries m))
    (entries m)) [
      | true ↦ entries-insert stack_cmp_total m row.stack (weight_in m row.stack + row.weight)
          ∙ ap (λ held. put stack_cmp row.stack (unwrap_or held 0 + row.weight) (entries m)) (get-entries m row.stack)
      | false ↦ refl
    ]

entries-with_rows : (m : Weighted) (rows : List WeightedStack)
    → entries (with_rows m rows) ≡ all_entered (entries m) rows
entries-with_rows m [] = refl
entries-with_rows m (row ∷ rows) =
    entries-with_rows (with_row m row) rows ∙ ap (λ es. all_entered es rows) (entries-with_row m row)

-- the rows of the aggregate, computed
pub rows_of-computed : (rows : List WeightedStack) → rows_of (aggregate_of rows) ≡ map row_of (all_entered [] rows)
rows_of-computed rows =
    ap (map row_of) (entries-with_rows empty rows ∙ ap (λ es. all_entered es rows) no_entries)

-- a!;x 1, a;b 1, c 0, the empty stack 4, a;b 2
abbrev pub mixed : List WeightedStack
mixed = row (codes "a!" ∷ codes "x" ∷ []) 1 ∷ row (a ∷ b ∷ []) 1 ∷ row (c ∷ []) 0 ∷ row [] 4
    ∷ row (a ∷ b ∷ []) 2 ∷ []

-- each stack of some weight once, with the sum of its weights; in the order of lists of names, not of joined text
mixed-aggregate : rows_of (aggregate_of mixed)
    ≡ row [] 4 ∷ row (a ∷ b ∷ []) 3 ∷ row (codes "a!" ∷ codes "x" ∷ []) 1 ∷ []
mixed-aggregate = rows_of-computed mixed

weightless-aggregate : rows_of (aggregate_of (row (c ∷ []) 0 ∷ [])) ≡ []
weightless-aggregate = rows_of-computed (row (c ∷ []) 0 ∷ [])
