-- What rows the samples of a profile give.
use Rattle.std.proofs.lemmas.Grind.{common_steps, same_number_lists}
use Rattle.std.proofs.Common.{◌≡◌, ℕ, zero, suc, ◌+◌, ◌^◌, ◌<◌, ◌≤◌, Bool, true, false, List, [], ◌∷◌, ◌++◌, length}
use Rattle.std.proofs.Common.{◌↔◌, refl, sym, ap, ◌∙◌, arith}
use Rattle.std.proofs.lemmas.Option.{some_pair_parts}
use Rattle.std.specs.Prelude.{ℤ, pos, negsuc, Option, Some, None, slice_get, unwrap_or, is_some, ◌==◌}
use Rattle.std.specs.Str.{bytes_eq}
use Rattle.std.specs.Bool.{IsTrue}
use Rattle.std.proofs.lemmas.Bool.{false≢true, and_parts, cases_lt, eqb-true}
use Rattle.std.proofs.lemmas.List.{length-reverse}
use Rattle.std.proofs.lemmas.List.Quantifiers.{position-Some}
use Rattle.pprof_profile.specs.declared.messages.Draft.{Draft}
use Rattle.pprof_profile.specs.declared.messages.Sample.{Sample}
use Rattle.pprof_profile.specs.declared.messages.ValueType.{ValueType}
use Rattle.pprof_profile.specs.Valid.{IsValidDraft, each_has_values}
use Rattle.profile_rows.specs.Values.{Row, value_of}
use Rattle.profile_samples.specs.declared.sampling.BatchFault.{BatchFault}
use Rattle.profile_samples.specs.declared.sampling.BatchFault.TheVariants.{Negative, Depth, Heavy}
use Rattle.profile_samples.specs.declared.sampling.BatchFault.TheVariants.{NoMemory}
use Rattle.profile_samples.specs.declared.sampling.ValueChoice.{ValueChoice}
use Rattle.profile_samples.specs.declared.sampling.ValueChoice.TheVariants.{Default, Named, All}
use Rattle.profile_samples.specs.Batches.{AreRowsOfSamples}
use Rattle.profile_samples.specs.Samples.{HasWeights, IsRowOfSample, IsSampleFault, all_of, chosen_types_of}
use Rattle.profile_samples.specs.Samples.{default_type, frames_of_ids, last_index, one_from, or_last, sample_stack_of}
use Rattle.profile_samples.specs.Samples.{string_at, type_named}
use Rattle.profile_samples.proofs.ItemsById.{rule_holds}

-- ---- the values that are taken

named_within : (draft : Draft) (text : List ℕ) (chosen : ℕ)
    → type_named draft text ≡ Some chosen → chosen < length draft.sample_types
named_within draft text chosen e = (position-Some (λ (kind : ValueType). bytes_eq
    (string_at draft.strings kind.kind) text) draft.sample_types chosen (record { kind = pos 0; unit = pos 0 }) e).0

last_within : (types : List ValueType) (chosen : ℕ) → last_index types ≡ Some chosen → chosen < length types
last_within [] chosen e = absurd (false≢true (ap is_some e))
last_within (item ∷ items) chosen e =
    let same : length items ≡ chosen = ap (λ o. unwrap_or o 0) e in omega (arith, same)

or_last_within : (draft : Draft) (found : Option ℕ) (chosen : ℕ) → ((at : ℕ) → found ≡ Some at
    → at < length draft.sample_types) → or_last draft found ≡ Some chosen → chosen < length draft.sample_types
or_last_within draft None chosen h e = last_within draft.sample_types chosen e
or_last_within draft (Some at) chosen h e = h chosen e

default_within : (draft : Draft) (chosen : ℕ)
    → default_type draft ≡ Some chosen → chosen < length draft.sample_types
default_within draft chosen e = grind (arith, common_steps, named_within, last_within, or_last_within)

pub same_first : (draft : Draft) (choice : ValueChoice) (first other width more : ℕ) → chosen_types_of draft choice
    ≡ Some (first, width) → chosen_types_of draft choice ≡ Some (other, more) → first ≡ other
same_first draft choice first other width more one two =
    (some_pair_parts first other width more (sym one ∙ two)).0

pub same_count : (draft : Draft) (choice : ValueChoice) (first other width more : ℕ) → chosen_types_of draft choice
    ≡ Some (first, width) → chosen_types_of draft choice ≡ Some (other, more) → width ≡ more
same_count draft choice first other width more one two =
    (some_pair_parts first other width more (sym one ∙ two)).1

one_within : (count : ℕ) (found : Option ℕ) (first width : ℕ) → ((chosen : ℕ) → found ≡ Some chosen → chosen < count)
    → one_from found ≡ Some (first, width) → first + width ≤ count
one_within count None first width h e = absurd (false≢true (ap is_some e))
one_within count (Some chosen) first width h e =
    grind (arith, h chosen refl, some_pair_parts chosen first 1 width e)

all_within : (count first width : ℕ) → all_of count ≡ Some (first, width) → first + width ≤ count
all_within zero first width e = absurd (false≢true (ap is_some e))
all_within (suc more) first width e = grind (arith, some_pair_parts 0 first (suc more) width e)

-- the values that are taken are some of those that there are
pub chosen_types_within : (draft : Draft) (choice : ValueChoice) (first width : ℕ)
    → chosen_types_of draft choice ≡ Some (first, width) → first + width ≤ length draft.sample_types
chosen_types_within draft Default first width e =
    one_within (length draft.sample_types) (default_type draft) first width (default_within draft) e
chosen_types_within draft (Named text) first width e =
    one_within (length draft.sample_types) (type_named draft text.now) first width (named_within draft text.now) e
chosen_types_within draft All first width e = all_within (length draft.sample_types) first width e

-- each sample of a valid profile has as many values as there are sample types
values_match : (draft : Draft) → IsValidDraft draft → each_has_values (length draft.sample_types) draft.samples ≡ true
values_match draft valid = grind (arith, common_steps, rule_holds)

each_matches : (count : ℕ) (samples : List Sample) (at : ℕ) (sample : Sample)
    → each_has_values count samples ≡ true → slice_get samples at ≡ Some sample → length sample.values ≡ count
each_matches count [] at sample all read = cc
each_matches count (first ∷ samples) zero sample all read = grind (arith, common_steps, and_parts, eqb-true)
each_matches count (first ∷ samples) (suc at) sample all read = each_matches count samples at sample
    (and_parts (length first.values == count) (each_has_values count samples) all).1 read

-- so each has the values that are taken
pub has_values : (draft : Draft) (first width at : ℕ) (sample : Sample) → IsValidDraft draft
    → first + width ≤ length draft.sample_types → slice_get draft.samples at ≡ Some sample
    → first + width ≤ length sample.values
has_values draft first width at sample valid within read =
    let same = each_matches (length draft.sample_types) draft.samples at sample (values_match draft valid) read in
    omega (arith, within, same)

-- ---- rows

pub row_of_sample : (draft : Draft) (first width : ℕ) (sample : Sample) (weights : List ℕ) → length weights ≡ width
    → HasWeights first width sample.values weights → length (sample_stack_of draft sample.location_ids) ≤ 65535
    → IsRowOfSample draft first width sample
    (record { stack = sample_stack_of draft sample.location_ids; weights = weights })
row_of_sample draft first width sample weights count values deep =
    record { stack = refl; depth = deep; count = count; values = values }

-- a value that is a weight isn't below 0
pub not_below : (value : Option ℤ) (weight below : ℕ) → value ≡ Some (pos weight) → value ≡ Some (negsuc below) → ⊥
not_below value weight below one other = cc

IsRowOfSample-same : (draft : Draft) (first width : ℕ) (sample : Sample) (a b : Row)
    → IsRowOfSample draft first width sample a → IsRowOfSample draft first width sample b → a ≡ b
IsRowOfSample-same draft first width sample a b one other =
    let count = one.count in
    let same = same_number_lists a.weights b.weights (count ∙ sym other.count)
    (λ value lt. let here = one.values value (omega (arith, lt, count)) in
    let there = other.values value (omega (arith, lt, count)) in cc) in
    let stacks = one.stack ∙ sym other.stack in λ i. record { stack = stacks i; weights = same i }

pub AreRowsOfSamples-same : (draft : Draft) (first width : ℕ) (samples : List Sample) (rows others : List Row)
    → AreRowsOfSamples draft first width samples rows
    → AreRowsOfSamples draft first width samples others → rows ≡ others
AreRowsOfSamples-same draft first width [] rows others one other = one ∙ sym other
AreRowsOfSamples-same draft first width (sample ∷ samples) [] others one other = absurd one
AreRowsOfSamples-same draft first width (sample ∷ samples) (row ∷ rows) [] one other = absurd other
AreRowsOfSamples-same draft first width (sample ∷ samples) (row ∷ rows) (r ∷ others) one other =
    let here = IsRowOfSample-same draft first width sample row r one.0 other.0 in
    let rest = AreRowsOfSamples-same draft first width samples rows others one.1 other.1 in cc

pub AreRowsOfSamples-push : (draft : Draft)
    (first width : ℕ) (samples : List Sample) (rows : List Row) (sample : Sample) (row : Row)
    → AreRowsOfSamples draft first width samples rows → IsRowOfSample draft first width sample row
    → AreRowsOfSamples draft first width (samples ++ sample ∷ []) (rows ++ row ∷ [])
AreRowsOfSamples-push draft first width [] [] sample row all this = (this, refl)
AreRowsOfSamples-push draft first width [] (r ∷ rows) sample row all this = cc
AreRowsOfSamples-push draft first width (s ∷ samples) [] sample row all this = absurd all
AreRowsOfSamples-push draft first width (s ∷ samples) (r ∷ rows) sample row all this =
    (all.0, AreRowsOfSamples-push draft first width samples rows sample row all.1 this)

-- the rows of samples that hold a sample: those before it, its own, those after it
abbrev pub CutAtSample : Draft → ℕ → ℕ → List Sample → Sample → List Row → Type 0
CutAtSample draft first width before sample rows = (front : List Row) × (row : Row) × (back : List Row) × (rows ≡ front
    ++ row ∷ back) × AreRowsOfSamples draft first width before front × IsRowOfSample draft first width sample row

pub cut_at : (draft : Draft) (first width : ℕ) (before : List Sample) (sample : Sample)
    (after : List Sample) (rows : List Row) → AreRowsOfSamples draft first width (before ++ sample ∷ after) rows
    → CutAtSample draft first width before sample rows
cut_at draft first width [] sample after [] all = absurd all
cut_at draft first width [] sample after (row ∷ rows) all = ([], row, rows, refl, refl, all.0)
cut_at draft first width (s ∷ before) sample after [] all = absurd all
cut_at draft first width (s ∷ before) sample after (r ∷ rows) all =
    let rest = cut_at draft first width before sample after rows all.1 in
    (r ∷ rest.0, rest.1, rest.2, ap (λ z. r ∷ z) rest.3, (all.0, rest.4), rest.5)

-- ---- whether frames fit

-- whether a stack can have the frames of these locations
abbrev pub Decides : Draft → List ℕ → Bool → Type 0
Decides draft ids fit = IsTrue fit ↔ (length (frames_of_ids draft ids) ≤ 65535)

pub fits_in : (draft : Draft) (ids : List ℕ) (fit : Bool) → Decides draft ids fit → IsTrue fit
    → length (sample_stack_of draft ids) ≤ 65535
fits_in draft ids fit decides this = grind (arith, common_steps, length-reverse)

pub too_deep : (draft : Draft) (ids : List ℕ) (fit : Bool) → Decides draft ids fit → fit ≡ false
    → 65535 < length (sample_stack_of draft ids)
too_deep draft ids fit decides none = grind (arith, common_steps, cases_lt, length-reverse)

-- ---- faults of a sample

-- a sample that gives a row within the totals has no fault but `NoMemory`
pub faultless : (draft : Draft) (first : ℕ) (totals : List ℕ) (number : ℕ) (sample : Sample) (row : Row)
    (fault : BatchFault) → IsRowOfSample draft first (length totals) sample row
    → ((value : ℕ) → value_of value totals + value_of value row.weights < 2 ^ 63)
    → IsSampleFault draft first totals number sample fault → fault ≡ NoMemory
faultless draft first totals number sample row (Negative at) this room (value, lt, (is, below, e)) =
    grind (arith, common_steps, not_below)
faultless draft first totals number sample row (Depth at) this room (is, weights, values, deep) =
    grind (arith, common_steps)
faultless draft first totals number sample row (Heavy at) this room (is, other, own, value, lt, heavy) =
    grind (arith, common_steps, IsRowOfSample-same)
faultless draft first totals number sample row NoMemory this room h = refl
faultless draft first totals number sample row fault this room h = absurd h

pub IsSampleFault-heavy : (draft : Draft) (first : ℕ) (totals : List ℕ) (number : ℕ) (sample : Sample)
    (weights : List ℕ) (fault : BatchFault) → length weights ≡ length totals
    → HasWeights first (length totals) sample.values weights
    → length (sample_stack_of draft sample.location_ids) ≤ 65535
    → (fault ≡ Heavy number) × (value : ℕ) × (value < length totals) × (2 ^ 63 ≤ value_of value totals
    + value_of value weights) → IsSampleFault draft first totals number sample fault
IsSampleFault-heavy draft first totals number sample weights fault count values deep (is, value, lt, heavy) =
    rw is (
      refl,
      record { stack = sample_stack_of draft sample.location_ids; weights = weights },
      row_of_sample draft first (length totals) sample weights count values deep,
      value,
      lt,
      heavy,
    )

-- where memory runs out the sample fits
pub IsSampleFault-memory : (draft : Draft) (first : ℕ) (totals : List ℕ) (number : ℕ) (sample : Sample)
    (weights : List ℕ) → length weights ≡ length totals → HasWeights first (length totals) sample.values weights
    → length (sample_stack_of draft sample.location_ids) ≤ 65535
    → ((value : ℕ) → value_of value totals + value_of value weights < 2 ^ 63)
    → IsSampleFault draft first totals number sample NoMemory
IsSampleFault-memory draft first totals number sample weights count values deep room = (
  record { stack = sample_stack_of draft sample.location_ids; weights = weights },
  row_of_sample draft first (length totals) sample weights count values deep,
  room,
)

-- ---- one value of a sample

-- the value at an index alone
pub one_weight : (index weight : ℕ) (values : List ℤ) → slice_get values index ≡ Some (pos weight)
    → HasWeights index 1 values (weight ∷ [])
one_weight index weight values is zero lt = let same : index + 0 ≡ index = omega arith in
    ap (slice_get values) same ∙ is
one_weight index weight values is (suc value) lt = absurd (omega (arith, lt))

pub one_value_row : (draft : Draft) (index : ℕ) (sample : Sample) (weight : ℕ)
    → slice_get sample.values index ≡ Some (pos weight) → length (sample_stack_of draft sample.location_ids) ≤ 65535
    → IsRowOfSample draft index 1 sample
    (record { stack = sample_stack_of draft sample.location_ids; weights = weight ∷ [] })
one_value_row draft index sample weight is deep =
    row_of_sample draft index 1 sample (weight ∷ []) refl (one_weight index weight sample.values is) deep

pub one_value_room : (earlier weight : ℕ) → earlier + weight < 2 ^ 63
    → (value : ℕ) → value_of value (earlier ∷ []) + value_of value (weight ∷ []) < 2 ^ 63
one_value_room earlier weight fits zero = fits
one_value_room earlier weight fits (suc value) = omega (arith, fits)

-- the sample's stack is too deep
pub one_value_deep : (draft : Draft) (index earlier number : ℕ) (sample : Sample) (weight : ℕ) (fit : Bool)
    → slice_get sample.values index ≡ Some (pos weight) → Decides draft sample.location_ids fit → fit ≡ false
    → IsSampleFault draft index (earlier ∷ []) number sample (Depth number)
one_value_deep draft index earlier number sample weight fit is decides none =
    (refl, weight ∷ [], one_weight index weight sample.values is, too_deep draft sample.location_ids fit decides none)

-- the weight passes the limit
pub one_value_heavy : (draft : Draft) (index earlier number : ℕ) (sample : Sample) (weight : ℕ)
    → slice_get sample.values index ≡ Some (pos weight)
    → length (sample_stack_of draft sample.location_ids) ≤ 65535
    → 2 ^ 63 ≤ earlier + weight → IsSampleFault draft index (earlier ∷ []) number sample (Heavy number)
one_value_heavy draft index earlier number sample weight is deep heavy =
    (refl, _, one_value_row draft index sample weight is deep, 0, omega arith, heavy)

-- ---- a pass over the samples, which are lent

pub samples_read : (profile draft : Draft) (at count : ℕ) → draft ≡ profile → count ≡ length draft.samples
    → count ≤ at → length profile.samples ≤ at
samples_read profile draft at count same is all = grind (arith, common_steps)
