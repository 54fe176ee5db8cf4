-- The profile that a batch is exported as: a sample type for each value, a sample for each row, and a function and a
-- location for each name.
use Rattle.std.specs.Prelude.{ℕ, ◌≡◌, pos, List, [], ◌∷◌, ◌++◌, ◌+◌, map, reverse}
use Rattle.std.specs.List.{flat_map}
use Rattle.pprof_profile.specs.declared.messages.Draft.{Draft}
use Rattle.pprof_profile.specs.declared.messages.Sample.{Sample}
use Rattle.pprof_profile.specs.declared.messages.Location.{Location}
use Rattle.pprof_profile.specs.declared.messages.Function.{Function}
use Rattle.pprof_profile.specs.declared.messages.ValueType.{ValueType}
use Rattle.pprof_profile.specs.Messages.{no_draft, no_function, no_line, no_location}
use Rattle.profile_rows.specs.declared.weighted_stacks.WeightedStack.{WeightedStack}
use Rattle.pprof_profile.specs.Canonical.{canonical_bytes_of, sample_bytes, samples_bytes, FitsSample}
use Rattle.pprof_profile.specs.Writing.{FitsEach}
use Rattle.pprof_profile.specs.Profiles.{IsProfile}
use Rattle.profile_rows.specs.Rows.{total_of}
use Rattle.profile_rows.specs.Values.{Row, singles}
use Rattle.profile_samples.specs.declared.exporting.ValueUnit.{ValueUnit}
use Rattle.name_counts.specs.TextTables.{number_in, with_texts}

-- the kind and the unit of a value
abbrev pub KindAndUnit : Type 0
KindAndUnit = List ℕ × List ℕ

abbrev pub pair_of : ValueUnit → KindAndUnit
pair_of unit = (unit.kind.now, unit.unit.now)

-- the kinds and units of values that are lent
abbrev pub pairs_of : List ValueUnit → List KindAndUnit
pairs_of units = map pair_of units

-- the names of rows as they first stand, rows in order and root first
abbrev pub names_of : List Row → List (List ℕ)
names_of rows = with_texts [] (flat_map (λ row. row.stack) rows)

-- the texts of kinds and units, in order
abbrev pub unit_texts : List KindAndUnit → List (List ℕ)
unit_texts [] = []
unit_texts (unit ∷ units) = unit.0 ∷ unit.1 ∷ unit_texts units

-- the strings: the empty one, each value's kind and unit, then the names; a text that is there isn't added again
abbrev pub strings_of : List KindAndUnit → List (List ℕ) → List (List ℕ)
strings_of units names = with_texts [] ([] ∷ unit_texts units ++ names)

-- the id of a name's function and of its location, from 1 on
abbrev pub id_in : List (List ℕ) → List ℕ → ℕ
id_in names name = number_in names name + 1

abbrev pub exported_function : List (List ℕ) → List (List ℕ) → List ℕ → Function
exported_function names strings name = record no_function { id = id_in names name; name = pos (number_in strings name) }

abbrev pub exported_location : List (List ℕ) → List ℕ → Location
exported_location names name =
    record no_location { id = id_in names name; lines = record no_line { function_id = id_in names name } ∷ [] }

-- the locations of a row's names, leaf first, and its values in order
abbrev pub exported_sample : List (List ℕ) → Row → Sample
exported_sample names row =
    record { location_ids = reverse (map (id_in names) row.stack); values = map pos row.weights; labels = [] }

abbrev pub exported_type : List (List ℕ) → KindAndUnit → ValueType
exported_type strings unit = record { kind = pos (number_in strings unit.0); unit = pos (number_in strings unit.1) }

-- a profile of these names and strings
abbrev pub draft_with : List (List ℕ) → List (List ℕ) → List Sample → List ValueType → Draft
draft_with names strings samples sample_types = record no_draft {
  sample_types = sample_types;
  samples = samples;
  locations = map (exported_location names) names;
  functions = map (exported_function names strings) names;
  strings = strings;
}

-- the profile of rows, with a table of strings
abbrev pub profile_with : List (List ℕ) → List (List ℕ) → List Row → List KindAndUnit → Draft
profile_with names strings rows units =
    draft_with names strings (map (exported_sample names) rows) (map (exported_type strings) units)

-- the profile of samples that number these names, without the samples
abbrev pub exported_draft : List (List ℕ) → List KindAndUnit → Draft
exported_draft names units =
    draft_with names (strings_of units names) [] (map (exported_type (strings_of units names)) units)

-- the profile of rows whose values are of these kinds and in these units; what it doesn't say is 0 or empty
abbrev pub exported_profile_of : List Row → List KindAndUnit → Draft
exported_profile_of rows units = profile_with (names_of rows) (strings_of units (names_of rows)) rows units

-- the profile of rows of one value
abbrev pub single_profile_of : List WeightedStack → List ℕ → List ℕ → Draft
single_profile_of rows kind unit = exported_profile_of (singles rows) ((kind, unit) ∷ [])

-- ---- rows that are written as samples when they come

-- the names, the samples' bytes and the weight of the rows, of one value; the samples' numbers and lengths fit 64 bits
pub record AreSamplesOf (rows : List WeightedStack) (names : List (List ℕ)) (samples : List ℕ)
    (total : ℕ) : Type 0 where
  pub names_rows : names ≡ names_of (singles rows)
  pub samples_rows : samples ≡ samples_bytes (map (exported_sample names) (singles rows))
  pub fits_rows : FitsEach FitsSample sample_bytes (map (exported_sample names) (singles rows))
  pub total_rows : total ≡ total_of rows

-- the bytes are those of the profile that rows are exported as, and are a profile
pub record IsExportOf (kind unit : List ℕ) (rows : List WeightedStack) (bytes : List ℕ) : Type 0 where
  pub canonical : bytes ≡ canonical_bytes_of (single_profile_of rows kind unit)
  pub profile : IsProfile bytes (single_profile_of rows kind unit)
