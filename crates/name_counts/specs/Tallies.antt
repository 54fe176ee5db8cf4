-- What each name weighs so far, by its number.
use Rattle.std.specs.Prelude.{ℕ, ◌≡◌, ◌<◌, ◌≤◌, ◌+◌, ◌==◌, ◌++◌, ◌∷◌, [], All, Bool, List, MatchOption, Option, length}
use Rattle.std.specs.Prelude.{slice_index_or, if◌then◌else◌}
use Rattle.std.specs.List.{IsDistinct, list_any}
use Rattle.name_counts.specs.declared.counted_rows.CountedRows.{CountedRows}
use Rattle.name_counts.specs.declared.tallies.Tallies.{Tallies}
use Rattle.name_counts.specs.declared.tallies.Tally.{Tally}
use Rattle.profile_rows.specs.declared.weighted_stacks.WeightedStack.{WeightedStack}
use Rattle.profile_rows.specs.Names.{IsName, is_same_name}
use Rattle.profile_rows.specs.Rows.{has_name, total_of, flat_weight_of, cumulative_weight_of}
use Rattle.name_counts.specs.TextTables.{names_at, number_in, with_texts}

-- ---- names by numbers

-- no two of these names are the same
abbrev pub AreSingle : List (List ℕ) → Type 0
AreSingle names = IsDistinct is_same_name names

-- whether a number is one of these
abbrev pub has_number : ℕ → List ℕ → Bool
has_number number numbers = list_any (λ other. other == number) numbers

-- these numbers are those of the names in a stack, whose leaf, where it has one, has the name of the number `leaf`
pub record IsNumberedStack (names stack : List (List ℕ)) (numbers : List ℕ) (leaf : Option ℕ) : Type 0 where
  pub named : All IsName stack
  pub inside : All (λ number. number < length names) numbers
  pub same : (name : List ℕ) → has_name name (names_at names numbers) ≡ has_name name stack
  pub last : MatchOption leaf (stack ≡ []) (λ number. (number < length names)
      × (callers : List (List ℕ)) × (stack ≡ callers ++ slice_index_or names number [] ∷ []))

-- ---- a row more

-- the tally of a number, which is 0 where there is none
abbrev pub tally_at : List Tally → ℕ → Tally
tally_at tallies number = slice_index_or tallies number (record { flat = 0; cumulative = 0; row = 0 })

-- the tally of a name, which is 0 where it has no number
abbrev pub tally_of : List (List ℕ) → List Tally → List ℕ → Tally
tally_of names tallies name = tally_at tallies (number_in names name)

-- a frame of the name in the row of this number: only the row's first frame of a name adds the row's weight
abbrev pub frame_counted : Tally → ℕ → ℕ → Tally
frame_counted tally row weight =
    if tally.row == row then tally
    else (record { flat = tally.flat; cumulative = tally.cumulative + weight; row = row })

-- frames of the names of these numbers, for the tally of one number
abbrev pub numbers_counted : List ℕ → ℕ → ℕ → ℕ → Tally → Tally
numbers_counted numbers row weight number tally =
    if has_number number numbers then frame_counted tally row weight else tally

-- the leaf of a row adds the row's weight as the leaf
abbrev pub leaf_counted : Tally → ℕ → Tally
leaf_counted tally weight =
    record { flat = tally.flat + weight; cumulative = tally.cumulative; row = tally.row }

-- ---- rows

-- the tally of a text after these rows, which are numbered up to `last`; a text that weighs something is a name
pub record IsTallyOf (rows : List WeightedStack) (last : ℕ) (name : List ℕ) (tally : Tally) : Type 0 where
  pub flat : tally.flat ≡ flat_weight_of rows name
  pub cumulative : tally.cumulative ≡ cumulative_weight_of rows name
  pub numbered : tally.row ≤ last
  pub named : 0 < tally.cumulative → IsName name

-- the tallies of names in these rows: a row's number is the weight up to it
pub record AreTalliesOf (rows : List WeightedStack) (names : List (List ℕ)) (tallies : Tallies) : Type 0 where
  pub single : AreSingle names
  pub many : length tallies.names.items ≡ length names
  pub each : (name : List ℕ) → IsTallyOf rows tallies.total name (tally_of names tallies.names.items name)
  pub total : tallies.total ≡ total_of rows

-- these rows are counted
abbrev pub HasCounted : List WeightedStack → CountedRows → Type 0
HasCounted rows counted = AreTalliesOf rows counted.row.texts counted.tallies

-- these rows are counted, and the frames of a row more stand there, whose names may be new
abbrev pub HasRowToCount : List WeightedStack → CountedRows → Type 0
HasRowToCount rows counted = (names : List (List ℕ)) × AreTalliesOf rows names counted.tallies
    × (counted.row.texts ≡ with_texts names counted.row.frames)
