-- What batch the samples of a profile give.
use Rattle.std.proofs.Common.{◌≡◌, ℕ, zero, suc, ◌+◌, ◌^◌, ◌<◌, ◌≤◌, List, [], ◌∷◌, ◌++◌, length, take, drop, get_or}
use Rattle.std.proofs.Common.{◌≢◌, ◌⊎◌, refl, sym, ap, ◌∙◌, inl, inr, subst, arith}
use Rattle.std.specs.Prelude.{ℤ, pos, Option, Some, None, Result, Err, MatchResult, slice_get, is_some}
use Rattle.std.specs.List.{All}
use Rattle.std.proofs.Math.Seq.{drop-cons}
use Rattle.std.proofs.lemmas.Bool.{false≢true}
use Rattle.std.proofs.lemmas.Option.{get_or_from_slice_get, slice_get_within}
use Rattle.std.proofs.lemmas.Result.{MatchResult-weaker}
use Rattle.std.proofs.lemmas.Grind.{common_steps}
use Rattle.std.proofs.lemmas.List.{map-append, take_all, take-append-drop, take_more}
use Rattle.std.proofs.lemmas.List.Elements.{All-map, All-push}
use Rattle.std.proofs.lemmas.List.Sums.{sum_by-append, sum_by-cons}
use Rattle.pprof_profile.specs.declared.messages.Draft.{Draft}
use Rattle.pprof_profile.specs.declared.messages.Sample.{Sample}
use Rattle.profile_rows.specs.declared.weighted_stacks.WeightedStack.{WeightedStack}
use Rattle.profile_rows.specs.Rows.{total_of}
use Rattle.profile_rows.specs.Values.{AreTotals, BatchState, HasRoom, IsBatch, Row, rows_at, single, single_batch}
use Rattle.profile_rows.specs.Values.{singles, value_of}
use Rattle.profile_rows.proofs.RowValues.{single_batch-rows_at, total_of-past, total_of-push}
use Rattle.profile_samples.specs.declared.sampling.BatchFault.{BatchFault}
use Rattle.profile_samples.specs.declared.sampling.BatchFault.TheVariants as faults
use Rattle.profile_samples.specs.declared.sampling.ValueChoice.{ValueChoice}
use Rattle.profile_samples.specs.Samples.{IsRowOfSample, IsSampleFault, chosen_types_of}
use Rattle.profile_samples.specs.Batches.{AreRowsOfSamples, AreStacksOf, IsBatchOf, IsFirstSamplesFault}
use Rattle.profile_samples.specs.Batches.{IsStacksWorkFault}
use Rattle.profile_samples.specs.Batches.{StandsAtSample}
use Rattle.profile_samples.proofs.SampleRows.{AreRowsOfSamples-push, AreRowsOfSamples-same, cut_at, faultless}
use Rattle.profile_samples.proofs.SampleRows.{one_value_room, same_count, same_first}

-- ---- the values of a sample

-- the first of four weights are the values that are taken
pub record AreTaken (values : List ℤ) (first count : ℕ) (weights : List ℕ) : Type 0 where
  pub size : length weights ≡ 4
  pub each : (k : ℕ) → k < count → slice_get values (first + k) ≡ Some (pos (get_or weights k 0))

-- ---- faults

-- rows keep the limit where those with others do
room_in : (value : ℕ) (front : List Row) (row : Row) (back rows : List Row) → rows ≡ front ++ row ∷ back
    → total_of (rows_at value rows) < 2 ^ 63 → total_of (rows_at value front) + value_of value row.weights < 2 ^ 63
room_in value front row back rows cut fits = grind (arith, common_steps, map-append, sum_by-append, sum_by-cons)

-- a sample among those of rows within the limit has no fault but `NoMemory`
pub faultless_among : (draft : Draft) (first : ℕ) (batch : BatchState) (totals : List ℕ) (number : ℕ)
    (before : List Sample) (sample : Sample) (after : List Sample) (rows : List Row) (fault : BatchFault)
    → AreTotals batch totals → AreRowsOfSamples draft first batch.width before batch.rows
    → AreRowsOfSamples draft first batch.width (before ++ sample ∷ after) rows
    → ((value : ℕ) → total_of (rows_at value rows) < 2 ^ 63)
    → IsSampleFault draft first totals number sample fault → fault ≡ faults.NoMemory
faultless_among draft first batch totals number before sample after rows fault are known all fits there =
    let (front, row, back, cut, own_before, own) = cut_at draft first batch.width before sample after rows all in
    let same : front ≡ batch.rows =
    AreRowsOfSamples-same draft first batch.width before front batch.rows own_before known in
    faultless draft first totals number sample row fault
    (rw are.width own) (λ value. rw (are.each value, ← same) (room_in value front row back rows cut (fits value))) there

-- the rows of another batch of the same choice
pub rows_of_choice : (draft : Draft) (choice : ValueChoice) (first width other more : ℕ) (samples : List Sample)
    (rows : List Row) → chosen_types_of draft choice ≡ Some (first, width)
    → chosen_types_of draft choice ≡ Some (other, more)
    → AreRowsOfSamples draft first width samples rows → AreRowsOfSamples draft other more samples rows
rows_of_choice draft choice first width other more samples rows one two all =
    grind (arith, common_steps, same_count, same_first)

-- a profile that gives a batch has no first fault but `NoMemory`
stands_nowhere : (most : ℕ) (draft : Draft) (choice : ValueChoice) (batch : BatchState) (fault : BatchFault)
    → IsBatchOf draft choice batch → StandsAtSample most draft choice fault → fault ≡ faults.NoMemory
stands_nowhere most draft choice batch fault this stands = grind (arith, common_steps, faultless_among, rows_of_choice)

-- an option is not both
pub none_some : {A : Type 0} → (option : Option A) (item : A) → option ≡ None → option ≡ Some item → ⊥
none_some option item none some = false≢true (ap is_some (sym none ∙ some))

-- more values than are allowed
abbrev pub IsTooWide : ℕ → Draft → ValueChoice → BatchFault → Type 0
IsTooWide most draft choice fault = (count : ℕ)
    × (first : ℕ) × (fault ≡ faults.Width count) × (chosen_types_of draft choice ≡ Some (first, count)) × (most < count)

-- no value, too many, or a fault that stands at a sample
abbrev pub IsNamed : ℕ → Draft → ValueChoice → BatchFault → Type 0
IsNamed most draft choice fault = ((fault ≡ faults.NoValue) × (chosen_types_of draft choice ≡ None))
    ⊎ (IsTooWide most draft choice fault ⊎ StandsAtSample most draft choice fault)

-- a first fault is `NoMemory` or one of these
pub as_named : (most : ℕ) (draft : Draft) (choice : ValueChoice) (fault : BatchFault)
    → fault ≢ faults.NoMemory → IsFirstSamplesFault most draft choice fault → IsNamed most draft choice fault
as_named most draft choice faults.NoValue named h = inl (refl, h)
as_named most draft choice (faults.Width count) named (first, is, many) = inr (inl (count, first, refl, is, many))
as_named most draft choice faults.NoMemory named h = absurd (named refl)
as_named most draft choice fault named h = inr (inr h)

-- a fault is `NoMemory` or another
pub memory_or_named : (fault : BatchFault) → (fault ≡ faults.NoMemory) ⊎ (fault ≢ faults.NoMemory)
memory_or_named faults.NoMemory = inl refl
memory_or_named fault = inr (λ e. cc)

pub IsFirstSamplesFault-batch : (most : ℕ) (draft : Draft) (choice : ValueChoice) (batch : BatchState)
    (fault : BatchFault) → batch.width ≤ most → IsBatchOf draft choice batch
    → IsFirstSamplesFault most draft choice fault → fault ≡ faults.NoMemory
IsFirstSamplesFault-batch most draft choice batch fault few this h =
    elim (memory_or_named fault) [
      | inl late ↦ late
      | inr named ↦ elim (as_named most draft choice fault named h) [
        | inl (is, none) ↦ absurd (none_some (chosen_types_of draft choice) _ none this.is_chosen)
        | inr (inl (count, first, is, chosen, many)) ↦
            let same = same_count draft choice first this.first count batch.width chosen this.is_chosen in
            absurd (omega (arith, same, many, few))
        | inr (inr stands) ↦ stands_nowhere most draft choice batch fault this stands
      ]
    ]

-- one profile and choice have one batch
pub IsBatchOf-same : (draft : Draft) (choice : ValueChoice) (batch other : BatchState)
    → IsBatchOf draft choice batch → IsBatchOf draft choice other → batch ≡ other
IsBatchOf-same draft choice batch other one two =
    grind (arith, common_steps, same_count, AreRowsOfSamples-same, rows_of_choice)

-- what stands at a sample is a profile's first fault
stands_first : (most : ℕ) (draft : Draft) (choice : ValueChoice) (fault : BatchFault)
    → StandsAtSample most draft choice fault → IsFirstSamplesFault most draft choice fault
stands_first most draft choice faults.NoValue this = absurd this.there
stands_first most draft choice (faults.Width count) this = absurd this.there
stands_first most draft choice faults.NoMemory this = (this.first, this.batch.width, this.is_chosen, this.few)
stands_first most draft choice fault this = this

-- memory runs out only where there are few values
pub memory_first : {T : Type 0} (Is : T → Type 0) (most : ℕ) (draft : Draft) (choice : ValueChoice) (first width : ℕ)
    (outcome : Result T BatchFault) → chosen_types_of draft choice ≡ Some (first, width) → width ≤ most
    → outcome ≡ Err faults.NoMemory → MatchResult outcome Is (λ fault. IsFirstSamplesFault most draft choice fault)
memory_first Is most draft choice first width outcome is few late = rw late (first, width, is, few)

pub first_of_standing : {T : Type 0} (P : T → Type 0) (most : ℕ) (draft : Draft) (choice : ValueChoice)
    (outcome : Result T BatchFault) → MatchResult outcome P (λ fault. StandsAtSample most draft choice fault)
    → MatchResult outcome P (λ fault. IsFirstSamplesFault most draft choice fault)
first_of_standing P most draft choice outcome this =
    MatchResult-weaker outcome this (λ made p. p) (stands_first most draft choice)

-- and so is what work on rows of one value ends with
work_first : (draft : Draft) (choice : ValueChoice) (fault : BatchFault)
    → IsStacksWorkFault draft choice fault → IsFirstSamplesFault 1 draft choice fault
work_first draft choice fault (inl there) = stands_first 1 draft choice fault there
work_first draft choice fault (inr (late, rows, sampled)) =
    subst (IsFirstSamplesFault 1 draft choice) (sym late) (sampled.first, 1, sampled.is_chosen, omega arith)

pub first_of_work : {T : Type 0} (P : T → Type 0) (draft : Draft) (choice : ValueChoice) (outcome : Result T BatchFault)
    → MatchResult outcome P (λ fault. IsStacksWorkFault draft choice fault)
    → MatchResult outcome P (λ fault. IsFirstSamplesFault 1 draft choice fault)
first_of_work P draft choice outcome this = MatchResult-weaker outcome this (λ made p. p) (work_first draft choice)

-- ---- rows of one value

pub rows_at-singles : (rows : List WeightedStack) → rows_at 0 (singles rows) ≡ rows
rows_at-singles [] = refl
rows_at-singles (row ∷ rows) = ap (λ rest. row ∷ rest) (rows_at-singles rows)

pub widths-singles : (rows : List WeightedStack) → All (λ row. length row.weights ≡ 1) (singles rows)
widths-singles rows = All-map (λ (row : Row). length row.weights ≡ 1) single rows (λ k d lt. refl)

-- the total of rows of one value
pub single_totals : (rows : List WeightedStack) → AreTotals (single_batch rows) (total_of rows ∷ [])
single_totals rows = record { width = refl; each = each }
  where
    each : (value : ℕ) → value_of value (total_of rows ∷ []) ≡ total_of (rows_at value (singles rows))
    each zero = ap total_of (sym (rows_at-singles rows))
    each (suc value) = sym (total_of-past (suc value) (singles rows) 1 (widths-singles rows) (omega arith))

pub single_is_batch : (rows : List WeightedStack) → total_of rows < 2 ^ 63 → IsBatch (single_batch rows)
single_is_batch rows fits = record {
  some = omega arith;
  few = omega arith;
  widths = widths-singles rows;
  fits = within;
}
  where
    within : (value : ℕ) → total_of (rows_at value (singles rows)) < 2 ^ 63
    within zero = subst (λ (some : List WeightedStack). total_of some < 2 ^ 63) (sym (rows_at-singles rows)) fits
    within (suc value) =
        let none = total_of-past (suc value) (singles rows) 1 (widths-singles rows) (omega arith) in
        omega (arith, none, fits)

-- one profile and choice have one list of rows of one value
pub AreStacksOf-same : (draft : Draft) (choice : ValueChoice) (rows others : List WeightedStack)
    → AreStacksOf draft choice rows → AreStacksOf draft choice others → rows ≡ others
AreStacksOf-same draft choice rows others one two =
    sym (rows_at-singles rows)
    ∙ ap (λ (batch : BatchState). rows_at 0 batch.rows)
    (IsBatchOf-same draft choice (single_batch rows) (single_batch others) one two)
    ∙ rows_at-singles others

-- a batch of one value has the rows of that value
pub batch_of_one : (draft : Draft) (choice : ValueChoice) (batch : BatchState) → IsBatchOf
    draft choice batch → batch.width ≡ 1 → AreStacksOf draft choice (rows_at 0 batch.rows)
batch_of_one draft choice batch this one =
    subst (IsBatchOf draft choice) (sym (single_batch-rows_at batch this.is_batch one)) this

-- ---- one sample

-- the totals say whether there is room
pub has_room : (batch : BatchState) (totals weights : List ℕ) → AreTotals batch totals → ((value : ℕ)
    → value_of value totals + value_of value weights < 2 ^ 63) → (value : ℕ) → HasRoom batch weights value
has_room batch totals weights are room value = grind (arith, common_steps)

-- ---- the loop over the samples

-- the first `count` samples give these rows
pub record IsBatchSoFar (draft : Draft) (first width count : ℕ) (batch : BatchState) : Type 0 where
  pub wide : batch.width ≡ width
  pub known : AreRowsOfSamples draft first batch.width (take count draft.samples) batch.rows
  pub is : IsBatch batch

pub IsBatchSoFar-row : (draft : Draft) (first width count : ℕ) (sample : Sample) (batch : BatchState)
    (row : Row) (next : BatchState) → slice_get draft.samples count ≡ Some sample
    → IsBatchSoFar draft first width count batch
    → IsRowOfSample draft first batch.width sample row → ((value : ℕ) → HasRoom batch row.weights value)
    → next ≡ record { width = batch.width; rows = batch.rows ++ row ∷ [] }
    → IsBatchSoFar draft first width (count + 1) next
IsBatchSoFar-row draft first width count sample batch row next read so_far this room more =
    let front : take (count + 1) draft.samples ≡ take count draft.samples ++ sample ∷ [] =
    take_more draft.samples count sample (slice_get_within draft.samples count sample read)
    ∙ ap (λ s. take count draft.samples ++ s ∷ []) (get_or_from_slice_get draft.samples count sample sample read) in
    rw more (record {
      wide = so_far.wide;
      known = rw front (AreRowsOfSamples-push draft first batch.width
          (take count draft.samples) batch.rows sample row so_far.known this);
      is = record {
        some = so_far.is.some;
        few = so_far.is.few;
        widths = All-push (λ (r : Row). length r.weights ≡ batch.width) batch.rows row so_far.is.widths this.count;
        fits = λ value. let total =
            total_of-push value batch.rows row in let fits = room value in omega (arith, total, fits);
      };
    })

pub IsBatchSoFar-end : (draft : Draft) (choice : ValueChoice) (first width count : ℕ) (batch : BatchState)
    → chosen_types_of draft choice ≡ Some (first, width)
    → length draft.samples ≤ count → IsBatchSoFar draft first width count batch
    → IsBatchOf draft choice batch
IsBatchSoFar-end draft choice first width count batch is_chosen whole so_far = grind (arith, common_steps, take_all)

-- a sample with a fault is the first one
pub IsBatchSoFar-stands : (most : ℕ) (draft : Draft) (choice : ValueChoice) (first width count : ℕ) (sample : Sample)
    (batch : BatchState) (totals : List ℕ) (fault : BatchFault) → chosen_types_of draft choice ≡ Some (first, width)
    → width ≤ most → slice_get draft.samples count ≡ Some sample
    → IsBatchSoFar draft first width count batch → AreTotals batch totals
    → IsSampleFault draft first totals count sample fault → StandsAtSample most draft choice fault
IsBatchSoFar-stands most draft choice first width count sample batch totals fault is_chosen few read so_far are there =
    let lt = slice_get_within draft.samples count sample read in
    let long : length (take count draft.samples) ≡ count = grind (arith, common_steps) in
    let back : drop count draft.samples ≡ sample ∷ drop (suc count) draft.samples =
    drop-cons draft.samples count sample lt ∙ ap (λ s. s ∷ drop (suc count) draft.samples)
    (get_or_from_slice_get draft.samples count sample sample read) in
    let wide = so_far.wide in
    record {
      first = first;
      before = take count draft.samples;
      sample = sample;
      after = drop (suc count) draft.samples;
      batch = batch;
      totals = totals;
      is_chosen = is_chosen ∙ ap (λ w. Some (first, w)) (sym so_far.wide);
      few = omega (arith, few, wide);
      cut = sym (take-append-drop count draft.samples) ∙ ap (λ ss. take count draft.samples ++ ss) back;
      rows_samples = so_far.known;
      is_batch = so_far.is;
      are_totals = are;
      there = subst (λ n. IsSampleFault draft first totals n sample fault) (sym long) there;
    }

-- ---- the same with rows of one value

abbrev pub AreStacksSoFar : Draft → ℕ → ℕ → List WeightedStack → Type 0
AreStacksSoFar draft first count rows = IsBatchSoFar draft first 1 count (single_batch rows)

pub AreStacksSoFar-row : (draft : Draft) (first count : ℕ) (sample : Sample) (rows : List WeightedStack)
    (row : WeightedStack) → slice_get draft.samples count ≡ Some sample
    → AreStacksSoFar draft first count rows → IsRowOfSample draft first 1 sample (single row)
    → total_of rows + row.weight < 2 ^ 63 → AreStacksSoFar draft first (count + 1) (rows ++ row ∷ [])
AreStacksSoFar-row draft first count sample rows row read so_far this fits =
    IsBatchSoFar-row draft first 1 count sample (single_batch rows) (single row) (single_batch (rows ++ row ∷ []))
    read so_far this (has_room (single_batch rows) (total_of rows ∷ []) (row.weight ∷ []) (single_totals rows)
    (one_value_room (total_of rows) row.weight fits))
    (ap (λ some. let batch : BatchState = record { width = 1; rows = some } in batch)
    (map-append single rows (row ∷ [])))

pub AreStacksSoFar-stands : (draft : Draft) (choice : ValueChoice) (first count : ℕ) (sample : Sample)
    (rows : List WeightedStack) (fault : BatchFault) → chosen_types_of draft choice ≡ Some (first, 1)
    → slice_get draft.samples count ≡ Some sample
    → AreStacksSoFar draft first count rows → IsSampleFault draft first (total_of rows ∷ []) count sample fault
    → StandsAtSample 1 draft choice fault
AreStacksSoFar-stands draft choice first count sample rows fault is_chosen read so_far there =
    IsBatchSoFar-stands 1 draft choice first 1 count sample (single_batch rows) (total_of rows ∷ []) fault is_chosen
    (omega arith) read so_far (single_totals rows) there
