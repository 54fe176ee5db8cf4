-- `==` decides equality of names, stacks, rows and lists of rows.
use Rattle.std.proofs.lemmas.Grind.{common_steps}
use Rattle.std.proofs.Common.{◌≡◌, ℕ, Bool, true, false, ◌&&◌, ◌*◌, List, [], ◌∷◌, ◌++◌, length, refl, sym, ap}
use Rattle.std.proofs.Common.{◌∙◌, arith, take, drop, length-drop}
use Rattle.std.specs.Prelude.{◌==◌}
use Rattle.std.specs.Bool.{Decides}
use Rattle.std.specs.Cmp.{IsEquivalence, unsigned_Decides}
use lib.Pointwise.{pointwise, pointwise_decides}
use Rattle.profile_rows.specs.Names.{is_same_name}
use Rattle.profile_rows.specs.declared.weighted_stacks.WeightedStack.{WeightedStack}
use Rattle.profile_rows.specs.Equality.{row_eq, values_eq, batch_eq}
use Rattle.profile_rows.specs.Values.{AreParts, BatchState, Row, batch_with, rows_at, with_values}
use Rattle.std.proofs.lemmas.List.{nil_from_length}
use Rattle.profile_rows.proofs.RowValues.{no_times, rows_at-with_values, suc_times}
use Rattle.std.specs.List.{flat_map}
use Rattle.std.proofs.lemmas.List.{take-append-drop}

pub both_decide : {P Q : Type 0} (a b : Bool) → Decides a P → Decides b Q → Decides (a && b) (P × Q)
both_decide true true p q = (λ e. (p.0 refl, q.0 refl), λ pq. refl)
both_decide true false p q = (λ e. cc, λ pq. q.1 pq.1)
both_decide false b p q = (λ e. cc, λ pq. p.1 pq.0)

-- a test that decides equality is an equivalence
pub decided-IsEquivalence : {K : Type 0} {E : K → K → Bool} → ((a b : K) → Decides (E a b) (a ≡ b)) → IsEquivalence E
decided-IsEquivalence {K} {E} decides = grind (arith, common_steps)

pub is_same_name-decides : (a b : List ℕ) → Decides (is_same_name a b) (a ≡ b)
is_same_name-decides = pointwise_decides unsigned_Decides

pub row_eq-decides : (a b : WeightedStack) → Decides (row_eq a b) (a ≡ b)
row_eq-decides a b = grind (arith, common_steps, pointwise, pointwise_decides, both_decide, is_same_name-decides)

pub rows_eq-decides : (a b : List WeightedStack) → Decides (pointwise row_eq a b) (a ≡ b)
rows_eq-decides = pointwise_decides row_eq-decides

pub values_eq-decides : (a b : Row) → Decides (values_eq a b) (a ≡ b)
values_eq-decides a b = grind (arith, common_steps, pointwise, pointwise_decides, both_decide, is_same_name-decides)

pub batch_eq-decides : (a b : BatchState) → Decides (batch_eq a b) (a ≡ b)
batch_eq-decides a b = grind (arith, common_steps, pointwise, pointwise_decides, both_decide, values_eq-decides)

-- ---- a batch is known by its parts

-- the values of rows but for the first of each
abbrev other_values_in : List Row → List ℕ
other_values_in rows = flat_map (λ row. drop 1 row.weights) rows

other_values_in-with_values : (m : ℕ) (rows : List WeightedStack) (values : List ℕ) → length values ≡ length rows * m
    → other_values_in (with_values m rows values) ≡ values
other_values_in-with_values m [] values sizes = sym (nil_from_length values (sizes ∙ no_times m))
other_values_in-with_values m (row ∷ rows) values sizes =
    let times = suc_times (length rows) m in
    let left = length-drop m values in
    ap (λ rest. take m values ++ rest) (other_values_in-with_values m rows (drop m values) (omega arith))
    ∙ take-append-drop m values

-- where the other values are as many as the rows have, rows that are equal have equal parts
pub with_values-same_values : (m : ℕ) (rows others : List WeightedStack) (values more : List ℕ)
    → length values ≡ length rows * m → length more ≡ length others * m
    → with_values m rows values ≡ with_values m others more → values ≡ more
with_values-same_values m rows others values more sizes more_sizes same =
    sym (other_values_in-with_values m rows values sizes)
    ∙ ap other_values_in same ∙ other_values_in-with_values m others more more_sizes

pub with_values-same_rows : (m : ℕ) (rows others : List WeightedStack) (values more : List ℕ)
    → with_values m rows values ≡ with_values m others more → rows ≡ others
with_values-same_rows m rows others values more same =
    sym (rows_at-with_values m rows values) ∙ ap (rows_at 0) same ∙ rows_at-with_values m others more

-- whether two batches have the same parts
abbrev pub parts_eq : List ℕ → List WeightedStack → List ℕ → List ℕ → List WeightedStack → List ℕ → Bool
parts_eq totals rows values sums others more =
    ((length totals == length sums) && pointwise row_eq rows others) && pointwise ◌==◌ values more

-- batches are equal where their parts are, whatever their totals of one width
parts_eq-decides : (totals : List ℕ)
    (rows : List WeightedStack) (values sums : List ℕ) (others : List WeightedStack) (more : List ℕ)
    → AreParts totals rows values → AreParts sums others more
    → Decides
    (parts_eq totals rows values sums others more) (batch_with totals rows values ≡ batch_with sums others more)
parts_eq-decides totals rows values sums others more parts other_parts =
    grind (
      arith,
      common_steps,
      both_decide,
      is_same_name-decides,
      rows_eq-decides,
      with_values-same_values,
      with_values-same_rows,
    )

module _ (totals : List ℕ)
    (rows : List WeightedStack) (values sums : List ℕ) (others : List WeightedStack) (more : List ℕ) (a b : BatchState)
    (parts : AreParts totals rows values) (other_parts : AreParts sums others more)
    (a_is : batch_with totals rows values ≡ a) (b_is : batch_with sums others more ≡ b) where
  pub parts_decide : Decides (parts_eq totals rows values sums others more) (a ≡ b)
  parts_decide = grind (arith, common_steps, parts_eq-decides)

  pub parts_compare : parts_eq totals rows values sums others more ≡ batch_eq a b
  parts_compare = grind (arith, common_steps, batch_eq-decides, parts_decide)
