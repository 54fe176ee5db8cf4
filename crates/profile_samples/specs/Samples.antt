-- What a sample of a profile is as a row (profile.proto, the comments of messages Sample, Location, Line and Function).
use Rattle.std.specs.Prelude.{Bool, false, ℕ, zero, suc, ℤ, pos, negsuc, ◌≡◌, ◌+◌, ◌^◌, ◌<◌, ◌≤◌, ◌==◌}
use Rattle.std.specs.Prelude.{Option, Some, None}
use Rattle.std.specs.Prelude.{List, [], ◌∷◌, ◌++◌, length, map, reverse, slice_get, slice_index_or, unwrap_or, codes}
use Rattle.std.specs.Prelude.{if◌then◌else◌}
use Rattle.std.specs.List.{flat_map, position}
use Rattle.std.specs.Fmt.{digits}
use Rattle.std.specs.Str.{bytes_eq}
use Rattle.pprof_profile.specs.declared.messages.Draft.{Draft}
use Rattle.pprof_profile.specs.declared.messages.Sample.{Sample}
use Rattle.pprof_profile.specs.declared.messages.Location.{Location}
use Rattle.pprof_profile.specs.declared.messages.Line.{Line}
use Rattle.pprof_profile.specs.declared.messages.Function.{Function}
use Rattle.pprof_profile.specs.declared.messages.ValueType.{ValueType}
use Rattle.profile_samples.specs.declared.sampling.BatchFault.{BatchFault}
use Rattle.profile_samples.specs.declared.sampling.BatchFault.TheVariants.{NoValue, Width, Negative, Depth, Heavy}
use Rattle.profile_samples.specs.declared.sampling.BatchFault.TheVariants.{NoMemory}
use Rattle.profile_samples.specs.declared.sampling.ValueChoice.{ValueChoice}
use Rattle.profile_samples.specs.declared.sampling.ValueChoice.TheVariants.{Default, Named, All}
use Rattle.profile_rows.specs.Limits.{most_frames}
use Rattle.profile_rows.specs.Names.{cleaned_name_of}
use Rattle.profile_rows.specs.Values.{Row, value_of}

-- the string at an index
abbrev pub string_at : List (List ℕ) → ℤ → List ℕ
string_at strings (pos index) = slice_index_or strings index []
string_at strings (negsuc index) = []

-- the first item that has the id
abbrev pub item_with : {A : Type 0} → (A → ℕ) → ℕ → List A → Option A
item_with id_of id [] = None
item_with id_of id (item ∷ items) = if id_of item == id then Some item else item_with id_of id items

-- ---- names of frames

-- an address as a name: `0x` and its hexadecimal digits, in lowercase and without leading zeros
abbrev pub address_name : ℕ → List ℕ
address_name address = codes "0x" ++ digits 16 false address

-- the first of two names that is there
abbrev pub first_name : Option (List ℕ) → Option (List ℕ) → Option (List ℕ)
first_name (Some name) other = Some name
first_name None other = other

-- a function's name is its `name`, or its `system_name` where that is empty; where both are, it has none
abbrev pub function_name : List (List ℕ) → Function → Option (List ℕ)
function_name strings function =
    first_name (cleaned_name_of (string_at strings function.name))
    (cleaned_name_of (string_at strings function.system_name))

-- the name of the function that an id names, where there is one and it has a name
abbrev pub named_by : List (List ℕ) → Option Function → Option (List ℕ)
named_by strings None = None
named_by strings (Some function) = function_name strings function

-- a line is called as its function; where that is unknown or has no name, as the location's address
abbrev pub line_name : List (List ℕ) → List Function → ℕ → Line → List ℕ
line_name strings functions address line =
    unwrap_or (named_by strings (item_with (λ function. function.id) line.function_id functions))
    (address_name address)

-- The frames of a location, leaf first: one for each line, of which the last is the caller into which the others were
-- inlined. A location without lines is one frame.
abbrev pub frames_from : List (List ℕ) → List Function → ℕ → List Line → List (List ℕ)
frames_from strings functions address [] = address_name address ∷ []
frames_from strings functions address (line ∷ lines) = map (line_name strings functions address) (line ∷ lines)

abbrev pub location_frames : Draft → Location → List (List ℕ)
location_frames draft location = frames_from draft.strings draft.functions location.address location.lines

abbrev pub frames_at : Draft → Option Location → List (List ℕ)
frames_at draft None = []
frames_at draft (Some location) = location_frames draft location

-- the frames of the location that an id names, leaf first
abbrev pub frames_of_id : Draft → ℕ → List (List ℕ)
frames_of_id draft id = frames_at draft (item_with (λ location. location.id) id draft.locations)

-- the frames of locations, leaf first
abbrev pub frames_of_ids : Draft → List ℕ → List (List ℕ)
frames_of_ids draft ids = flat_map (frames_of_id draft) ids

-- the stack of a sample: the frames of its locations, root first
abbrev pub sample_stack_of : Draft → List ℕ → List (List ℕ)
sample_stack_of draft ids = reverse (frames_of_ids draft ids)

abbrev pub frames_of_maybe : Draft → Option Sample → List (List ℕ)
frames_of_maybe draft None = []
frames_of_maybe draft (Some sample) = frames_of_ids draft sample.location_ids

-- the frames of the sample of this number, leaf first
abbrev pub frames_of_sample : Draft → ℕ → List (List ℕ)
frames_of_sample draft number = frames_of_maybe draft (slice_get draft.samples number)

-- ---- one sample type

-- the first sample type of this name
abbrev pub type_named : Draft → List ℕ → Option ℕ
type_named draft text =
    position (λ (kind : ValueType). bytes_eq (string_at draft.strings kind.kind) text) draft.sample_types

abbrev pub last_index : List ValueType → Option ℕ
last_index [] = None
last_index (item ∷ items) = Some (length items)

abbrev pub or_last : Draft → Option ℕ → Option ℕ
or_last draft None = last_index draft.sample_types
or_last draft (Some index) = Some index

abbrev pub is_zero : ℤ → Bool
is_zero (pos number) = number == 0
is_zero (negsuc number) = false

-- what the profile's own `default_sample_type` chooses: where it is 0 or names no sample type, the last one
abbrev pub default_type : Draft → Option ℕ
default_type draft =
    if is_zero draft.default_sample_type then last_index draft.sample_types
    else or_last draft (type_named draft (string_at draft.strings draft.default_sample_type))

-- ---- the values that are taken

-- the value at an index alone
abbrev pub one_from : Option ℕ → Option (ℕ × ℕ)
one_from None = None
one_from (Some first) = Some (first, 1)

-- so many values, where there are any
abbrev pub all_of : ℕ → Option (ℕ × ℕ)
all_of zero = None
all_of (suc more) = Some (0, suc more)

-- the index of the first value that a choice takes of each sample, and how many it takes; the others follow it
abbrev pub chosen_types_of : Draft → ValueChoice → Option (ℕ × ℕ)
chosen_types_of draft Default = one_from (default_type draft)
chosen_types_of draft (Named text) = one_from (type_named draft text.now)
chosen_types_of draft All = all_of (length draft.sample_types)

-- so many values from an index on are these weights
abbrev pub HasWeights : ℕ → ℕ → List ℤ → List ℕ → Type 0
HasWeights first width values weights = (value : ℕ) → value < width
    → slice_get values (first + value) ≡ Some (pos (value_of value weights))

-- so many values from the first on are these weights, and there are no more
pub record AreWeightsOf (first width : ℕ) (values : List ℤ) (taken : List ℕ) : Type 0 where
  pub count : length taken ≡ width
  pub weights : HasWeights first width values taken

-- a choice takes so many values from the first on, no more than these
pub record AreChosen (most : ℕ) (draft : Draft) (choice : ValueChoice) (first width : ℕ) : Type 0 where
  pub few : width ≤ most
  pub chosen : chosen_types_of draft choice ≡ Some (first, width)

-- ---- a sample as a row

-- the row of a sample, by so many values from the first that is taken on
pub record IsRowOfSample (draft : Draft) (first width : ℕ) (sample : Sample) (row : Row) : Type 0 where
  pub stack : row.stack ≡ sample_stack_of draft sample.location_ids
  pub depth : length row.stack ≤ most_frames
  pub count : length row.weights ≡ width
  pub values : HasWeights first width sample.values row.weights

-- the sample gives a row of this weight, by the value at an index, which can follow rows of the weight `earlier`
pub record IsWeightAfter (draft : Draft) (index earlier : ℕ) (sample : Sample) (weight : ℕ) : Type 0 where
  pub row : IsRowOfSample draft index 1 sample
      (record { stack = sample_stack_of draft sample.location_ids; weights = weight ∷ [] })
  pub fits : earlier + weight < 2 ^ 63

-- what keeps a value of a sample from being a weight
abbrev pub IsValueFault : ℕ → ℕ → List ℤ → BatchFault → Type 0
IsValueFault index number values NoValue = ⊥
IsValueFault index number values (Width count) = ⊥
IsValueFault index number values (Negative at) = (at ≡ number) × (below : ℕ)
    × (slice_get values index ≡ Some (negsuc below))
IsValueFault index number values (Depth at) = ⊥
IsValueFault index number values (Heavy at) = ⊥
IsValueFault index number values NoMemory = ⊥

-- Why a sample gives no row that can follow rows of these totals, one for each value that is taken: a value below 0;
-- else its depth; else a value that passes the limit. Memory runs out only at a sample which has none of them.
abbrev pub IsSampleFault : Draft → ℕ → List ℕ → ℕ → Sample → BatchFault → Type 0
IsSampleFault draft first totals number sample NoValue = ⊥
IsSampleFault draft first totals number sample (Width count) = ⊥
IsSampleFault draft first totals number sample (Negative at) = (value : ℕ) × (value < length totals)
    × IsValueFault (first + value) number sample.values (Negative at)
IsSampleFault draft first totals number sample (Depth at) = (at ≡ number)
    × (weights : List ℕ) × HasWeights first (length totals) sample.values weights
    × (most_frames < length (sample_stack_of draft sample.location_ids))
IsSampleFault draft first totals number sample (Heavy at) = (at ≡ number)
    × (row : Row) × IsRowOfSample draft first (length totals) sample row
    × (value : ℕ) × (value < length totals) × (2 ^ 63 ≤ value_of value totals + value_of value row.weights)
IsSampleFault draft first totals number sample NoMemory =
    (row : Row) × IsRowOfSample draft first (length totals) sample row
    × ((value : ℕ) → value_of value totals + value_of value row.weights < 2 ^ 63)
