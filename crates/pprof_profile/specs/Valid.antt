-- What makes a draft valid (profile.proto, the comments of message Profile and of the messages in it).
use Rattle.std.specs.Prelude.{◌≡◌, ℕ, ℤ, pos, negsuc, Bool, true, false, not, ◌&&◌, ◌||◌, ◌==◌, nat_eq, nat_lt, cond}
use Rattle.std.specs.Prelude.{List, [], ◌∷◌, length, map, Option, Some, None}
use Rattle.std.specs.List.{list_all, list_any}
use Rattle.pprof_profile.specs.declared.faults.ProfileFault.{ProfileFault}
use Rattle.pprof_profile.specs.declared.faults.ProfileFault.TheVariants.{NoStrings, FirstString, StringIndex, ZeroId}
use Rattle.pprof_profile.specs.declared.faults.ProfileFault.TheVariants.{DoubleId, NoLocation, NoMapping, NoFunction}
use Rattle.pprof_profile.specs.declared.faults.ProfileFault.TheVariants.{ValueCount}
use Rattle.pprof_profile.specs.declared.messages.ValueType.{ValueType}
use Rattle.pprof_profile.specs.declared.messages.Line.{Line}
use Rattle.pprof_profile.specs.declared.messages.Label.{Label}
use Rattle.pprof_profile.specs.declared.messages.Mapping.{Mapping}
use Rattle.pprof_profile.specs.declared.messages.Function.{Function}
use Rattle.pprof_profile.specs.declared.messages.Location.{Location}
use Rattle.pprof_profile.specs.declared.messages.Sample.{Sample}
use Rattle.pprof_profile.specs.declared.messages.Draft.{Draft}

-- ---- strings: "string_table[0] must always be """, and indices are indices into it

abbrev pub is_nonempty : {A : Type 0} → List A → Bool
is_nonempty [] = false
is_nonempty (item ∷ items) = true

abbrev pub begins_with_empty : List (List ℕ) → Bool
begins_with_empty [] = false
begins_with_empty (text ∷ texts) = not (is_nonempty text)

-- an index into so many strings
abbrev pub is_index : ℕ → ℤ → Bool
is_index count (pos index) = nat_lt index count
is_index count (negsuc index) = false

abbrev pub value_type_indexes : ℕ → ValueType → Bool
value_type_indexes count item = is_index count item.kind && is_index count item.unit

abbrev pub label_indexes : ℕ → Label → Bool
label_indexes count item = is_index count item.key && is_index count item.text && is_index count item.num_unit

abbrev pub sample_indexes : ℕ → Sample → Bool
sample_indexes count item = list_all (label_indexes count) item.labels

abbrev pub mapping_indexes : ℕ → Mapping → Bool
mapping_indexes count item = is_index count item.filename && is_index count item.build_id

abbrev pub function_indexes : ℕ → Function → Bool
function_indexes count item =
    is_index count item.name && is_index count item.system_name && is_index count item.filename

-- the indices of the messages that are repeated
abbrev pub items_index : ℕ → Draft → Bool
items_index count draft =
    list_all (value_type_indexes count) draft.sample_types && list_all (sample_indexes count) draft.samples
    && list_all (mapping_indexes count) draft.mappings && list_all (function_indexes count) draft.functions

-- the indices of the profile itself
abbrev pub profile_indexes : ℕ → Draft → Bool
profile_indexes count draft =
    is_index count draft.drop_frames && is_index count draft.keep_frames && value_type_indexes count draft.period_type
    && list_all (is_index count) draft.comments && is_index count draft.default_sample_type

abbrev pub all_index : Draft → Bool
all_index draft = items_index (length draft.strings) draft && profile_indexes (length draft.strings) draft

-- ---- ids: "Unique nonzero id" of mappings, locations and functions

abbrev pub mapping_ids : Draft → List ℕ
mapping_ids draft = map (λ item. item.id) draft.mappings

abbrev pub location_ids : Draft → List ℕ
location_ids draft = map (λ item. item.id) draft.locations

abbrev pub function_ids : Draft → List ℕ
function_ids draft = map (λ item. item.id) draft.functions

abbrev pub is_known : List ℕ → ℕ → Bool
is_known ids id = list_any (nat_eq id) ids

abbrev pub has_double : List ℕ → Bool
has_double [] = false
has_double (id ∷ ids) = is_known ids id || has_double ids

abbrev pub no_zero_id : Draft → Bool
no_zero_id draft =
    not (list_any (λ item. item.id == 0) draft.mappings) && not (list_any (λ item. item.id == 0) draft.locations)
    && not (list_any (λ item. item.id == 0) draft.functions)

abbrev pub no_double_id : Draft → Bool
no_double_id draft =
    not (has_double (mapping_ids draft)) && not (has_double (location_ids draft))
    && not (has_double (function_ids draft))

-- ---- what names an id

-- each location of each sample
abbrev pub names_locations : (ℕ → Bool) → List Sample → Bool
names_locations known samples = list_all (λ sample. list_all known sample.location_ids) samples

-- 0, which names none, or a known id
abbrev pub is_none_or : (ℕ → Bool) → ℕ → Bool
is_none_or known id = (id == 0) || known id

abbrev pub names_mappings : (ℕ → Bool) → List Location → Bool
names_mappings known locations = list_all (λ location. is_none_or known location.mapping_id) locations

abbrev pub line_names_function : (ℕ → Bool) → Line → Bool
line_names_function known line = is_none_or known line.function_id

abbrev pub names_functions : (ℕ → Bool) → List Location → Bool
names_functions known locations = list_all (λ location. list_all (line_names_function known) location.lines) locations

-- ---- values: "The number of values .. must match the length of Profile.sample_type"

abbrev pub each_has_values : ℕ → List Sample → Bool
each_has_values count samples = list_all (λ sample. length sample.values == count) samples

-- ---- all rules

-- The fault of the first rule that does not hold.
abbrev pub first_broken : List (Bool × ProfileFault) → Option ProfileFault
first_broken [] = None
first_broken (rule ∷ rules) = cond rule.0 (first_broken rules) (Some rule.1)

-- The rules, in the order in which they are asked. Each is asked of the whole draft before the next.
abbrev pub validity_fault : Draft → Option ProfileFault
validity_fault draft =
    first_broken
    ((is_nonempty draft.strings, NoStrings)
    ∷ (begins_with_empty draft.strings, FirstString)
    ∷ (all_index draft, StringIndex)
    ∷ (no_zero_id draft, ZeroId)
    ∷ (no_double_id draft, DoubleId)
    ∷ (names_locations (is_known (location_ids draft)) draft.samples, NoLocation)
    ∷ (names_mappings (is_known (mapping_ids draft)) draft.locations, NoMapping)
    ∷ (names_functions (is_known (function_ids draft)) draft.locations, NoFunction)
    ∷ (each_has_values (length draft.sample_types) draft.samples, ValueCount)
    ∷ [])

abbrev pub IsValidDraft : Draft → Type 0
IsValidDraft draft = validity_fault draft ≡ None

-- the rules that are asked first, and take no memory: those of strings and of indices, and that no id is 0
pub record KeepsFirstRules (draft : Draft) : Type 0 where
  pub strings : is_nonempty draft.strings ≡ true
  pub first : begins_with_empty draft.strings ≡ true
  pub indices : all_index draft ≡ true
  pub ids : no_zero_id draft ≡ true
