-- Why a row is refused.
use Rattle.std.specs.Prelude.{ℕ, ◌≡◌, ◌≢◌, ◌+◌, ◌^◌, ◌≤◌, ◌<◌, List, length}
use Rattle.profile_rows.specs.declared.weighted_stacks.WeightedStack.{WeightedStack}
use Rattle.profile_rows.specs.declared.weighted_stacks.PushFault.{PushFault}
use Rattle.profile_rows.specs.declared.weighted_stacks.PushFault.TheVariants.{Width, Heavy, NoMemory}
use Rattle.profile_rows.specs.Rows.{total_of}
use Rattle.profile_rows.specs.Values.{BatchState, HasRoom, rows_at, value_of}

-- The total passes 2^63 - 1 with the row's weight; where memory ran out it doesn't.
abbrev pub IsWeightFault : List WeightedStack → ℕ → PushFault → Type 0
IsWeightFault rows weight (Width held) = ⊥
IsWeightFault rows weight (Heavy value held) =
    (value ≡ 0) × (held ≡ total_of rows) × (2 ^ 63 ≤ total_of rows + weight)
IsWeightFault rows weight NoMemory = total_of rows + weight < 2 ^ 63

-- The first cause of these: the row has another width; the total of a value, the lowest such, passes 2^63 - 1 with the
-- row's; memory ran out.
abbrev pub IsPushFault : BatchState → List ℕ → PushFault → Type 0
IsPushFault batch weights (Width held) = (held ≡ batch.width) × (length weights ≢ batch.width)
IsPushFault batch weights (Heavy value held) = (length weights ≡ batch.width) × (value < batch.width)
    × (held ≡ total_of (rows_at value batch.rows)) × (2 ^ 63 ≤ held + value_of value weights)
    × ((below : ℕ) → below < value → HasRoom batch weights below)
IsPushFault batch weights NoMemory =
    (length weights ≡ batch.width) × ((value : ℕ) → HasRoom batch weights value)
