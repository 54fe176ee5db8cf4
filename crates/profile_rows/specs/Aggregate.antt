-- The aggregate of rows: each stack of weight above 0 once, with its weight.
use Rattle.std.specs.Prelude.{ℕ, ◌≡◌, ◌<◌, All, AllPairs, List, [], ◌∷◌, ◌+◌, map, unwrap_or, nat_lt, if◌then◌else◌}
use Rattle.std.specs.Ordering.{nat_cmp}
use Rattle.std.specs.declared.cmp.Ordering.TheVariants.{Less}
use Rattle.std.specs.Cmp.Lexicographic.{slice_cmp}
use Rattle.std.specs.FinMap as finite
use Rattle.profile_rows.specs.declared.weighted_stacks.WeightedStack.{WeightedStack}
use Rattle.profile_rows.specs.Values.{Row, rows_at, value_of}

-- a finite map from stacks to weights
abbrev pub Weighted : Type 0
Weighted = finite.FinMap (slice_cmp (slice_cmp nat_cmp)) ℕ

-- the weight of a stack in a map, 0 where it has none
abbrev pub weight_in : Weighted → List (List ℕ) → ℕ
weight_in weighted stack = unwrap_or (finite.get weighted stack) 0

-- one row more; a row of weight 0 changes nothing
abbrev pub with_row : Weighted → WeightedStack → Weighted
with_row weighted row = if nat_lt 0 row.weight
    then finite.insert weighted row.stack (weight_in weighted row.stack + row.weight) else weighted

abbrev pub with_rows : Weighted → List WeightedStack → Weighted
with_rows weighted [] = weighted
with_rows weighted (row ∷ rows) = with_rows (with_row weighted row) rows

-- the map from each stack of weight above 0 to its weight
abbrev pub aggregate_of : List WeightedStack → Weighted
aggregate_of rows = with_rows finite.empty rows

abbrev pub row_of : List (List ℕ) × ℕ → WeightedStack
row_of entry = record { stack = entry.0; weight = entry.1 }

-- the rows of a map, in the order of their stacks
abbrev pub rows_of : Weighted → List WeightedStack
rows_of weighted = map row_of (finite.entries weighted)

-- each stack comes before those after it: in order, and none twice
abbrev pub IsAscending : List WeightedStack → Type 0
IsAscending rows = AllPairs (λ a b. slice_cmp (slice_cmp nat_cmp) a.stack b.stack ≡ Less) rows

abbrev pub AreWeighty : List WeightedStack → Type 0
AreWeighty rows = All (λ (row : WeightedStack). 0 < row.weight) rows

-- some value is above 0
abbrev pub HasWeight : List ℕ → Type 0
HasWeight weights = (value : ℕ) × (0 < value_of value weights)

-- The rows of a map for each value: each stack that weighs something in one of them once, in the order of stacks, with
-- its weight in each.
pub record AreRowsOf (weights : ℕ → Weighted) (rows : List Row) : Type 0 where
  pub ascending : AllPairs (λ (row after : Row). slice_cmp (slice_cmp nat_cmp) row.stack after.stack ≡ Less) rows
  pub weighty : All (λ (row : Row). HasWeight row.weights) rows
  pub each : (value : ℕ) → aggregate_of (rows_at value rows) ≡ weights value

-- the aggregate of rows of several values: that of each value
abbrev pub aggregates_of : List Row → ℕ → Weighted
aggregates_of rows value = aggregate_of (rows_at value rows)
