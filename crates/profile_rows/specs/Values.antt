-- Rows of one to four values, which are counted from 0. Each report is over one value of every row.
use Rattle.std.specs.Prelude.{ℕ, ◌≡◌, ◌+◌, ◌^◌, ◌≤◌, ◌<◌, ◌++◌, ◌-◌, ◌*◌, All, List, [], ◌∷◌, length, map}
use Rattle.std.specs.Prelude.{slice_index_or, drop, take}
use Rattle.profile_rows.specs.declared.weighted_stacks.WeightedStack.{WeightedStack}
use Rattle.profile_rows.specs.Limits.{most_values}
use Rattle.profile_rows.specs.Rows.{total_of}

-- a stack and its values
pub record Row : Type 0 where
  pub stack : List (List ℕ)
  pub weights : List ℕ

-- the value of this number, 0 where there is none
abbrev pub value_of : ℕ → List ℕ → ℕ
value_of value weights = slice_index_or weights value 0

-- four values: these, and 0 for those that there aren't
abbrev pub padded : List ℕ → List ℕ
padded values = values ++ drop (length values) (0 ∷ 0 ∷ 0 ∷ 0 ∷ [])

-- four weights, of which the first are so many values, and the others 0
pub record IsPadded (width : ℕ) (weights : List ℕ) : Type 0 where
  pub some : 0 < width
  pub few : width ≤ most_values
  pub taken : length (take width weights) ≡ width
  pub rest : padded (take width weights) ≡ weights

-- a row by one of its values
abbrev pub weighing : ℕ → Row → WeightedStack
weighing value row = record { stack = row.stack; weight = value_of value row.weights }

-- the plain profile of one value
abbrev pub rows_at : ℕ → List Row → List WeightedStack
rows_at value rows = map (weighing value) rows

-- a row of one value
abbrev pub single : WeightedStack → Row
single row = record { stack = row.stack; weights = row.weight ∷ [] }

-- rows of one value
abbrev pub singles : List WeightedStack → List Row
singles rows = map single rows

-- the rows of these stacks with their first values, and of the other values, so many for each row
abbrev pub with_values : ℕ → List WeightedStack → List ℕ → List Row
with_values more [] values = []
with_values more (row ∷ rows) values = (record { stack = row.stack; weights = row.weight ∷ take more values })
    ∷ with_values more rows (drop more values)

-- the row of this number
abbrev pub row_in : List Row → ℕ → Row
row_in rows at = slice_index_or rows at (record { stack = []; weights = [] })

-- what a batch holds: its width, and its rows in order
pub record BatchState : Type 0 where
  pub width : ℕ
  pub rows : List Row

-- a batch of one value
abbrev pub single_batch : List WeightedStack → BatchState
single_batch rows = record { width = 1; rows = singles rows }

-- what every batch is: its rows have its width, and the total of each value keeps the limit
pub record IsBatch (batch : BatchState) : Type 0 where
  pub some : 0 < batch.width
  pub few : batch.width ≤ most_values
  pub widths : All (λ row. length row.weights ≡ batch.width) batch.rows
  pub fits : (value : ℕ) → total_of (rows_at value batch.rows) < 2 ^ 63

-- the total of each value
pub record AreTotals (batch : BatchState) (totals : List ℕ) : Type 0 where
  pub width : length totals ≡ batch.width
  pub each : (value : ℕ) → value_of value totals ≡ total_of (rows_at value batch.rows)

-- a batch by its totals, its stacks with their first values, and its other values
abbrev pub batch_with : List ℕ → List WeightedStack → List ℕ → BatchState
batch_with totals rows values =
    record { width = length totals; rows = with_values (length totals - 1) rows values }

-- the parts of a batch: as many other values as its rows have, and totals that are its own
abbrev pub AreParts : List ℕ → List WeightedStack → List ℕ → Type 0
AreParts totals rows values = (length values ≡ length rows * (length totals - 1))
    × IsBatch (batch_with totals rows values) × AreTotals (batch_with totals rows values) totals

-- these values and those pass the limit together at this value, and at no lower one
pub record IsFirstHeavy (totals more : List ℕ) (value : ℕ) : Type 0 where
  pub heavy : 2 ^ 63 ≤ value_of value totals + value_of value more
  pub lower : (below : ℕ) → below < value → value_of below totals + value_of below more < 2 ^ 63

-- the total of this value keeps the limit with a row of these values
abbrev pub HasRoom : BatchState → List ℕ → ℕ → Type 0
HasRoom batch weights value = total_of (rows_at value batch.rows) + value_of value weights < 2 ^ 63
