-- What the samples of a profile are as a batch: a row for each, with the values that a choice takes, and why there is
-- none. Rows of one value are the batch of that width.
use Rattle.std.specs.Prelude.{ℕ, ◌≡◌, ◌≢◌, ◌⊎◌, ◌<◌, ◌≤◌, Some, None, List, [], ◌∷◌, ◌++◌, length, Result}
use Rattle.std.specs.Prelude.{MatchResult}
use Rattle.pprof_profile.specs.declared.messages.Draft.{Draft}
use Rattle.pprof_profile.specs.declared.messages.Sample.{Sample}
use Rattle.profile_rows.specs.declared.weighted_stacks.WeightedStack.{WeightedStack}
use Rattle.profile_rows.specs.Limits.{most_values}
use Rattle.profile_rows.specs.Values.{AreTotals, BatchState, IsBatch, Row, single_batch}
use Rattle.profile_samples.specs.declared.sampling.BatchFault.{BatchFault}
use Rattle.profile_samples.specs.declared.sampling.BatchFault.TheVariants.{NoValue, Width, Negative, Depth, Heavy}
use Rattle.profile_samples.specs.declared.sampling.BatchFault.TheVariants.{NoMemory}
use Rattle.profile_samples.specs.declared.sampling.ValueChoice.{ValueChoice}
use Rattle.profile_samples.specs.Samples.{IsRowOfSample, IsSampleFault, chosen_types_of}

-- ---- rows

-- a row for each sample, in order
abbrev pub AreRowsOfSamples : Draft → ℕ → ℕ → List Sample → List Row → Type 0
AreRowsOfSamples draft first width [] rows = rows ≡ []
AreRowsOfSamples draft first width (sample ∷ samples) [] = ⊥
AreRowsOfSamples draft first width (sample ∷ samples) (row ∷ rows) = IsRowOfSample draft first width sample row
    × AreRowsOfSamples draft first width samples rows

-- the batch of a profile's samples, by the choice of values
pub record IsBatchOf (draft : Draft) (choice : ValueChoice) (batch : BatchState) : Type 0 where
  pub first : ℕ
  pub is_chosen : chosen_types_of draft choice ≡ Some (first, batch.width)
  pub rows_samples : AreRowsOfSamples draft first batch.width draft.samples batch.rows
  pub is_batch : IsBatch batch

-- the rows of a profile's samples, by a choice of one value
abbrev pub AreStacksOf : Draft → ValueChoice → List WeightedStack → Type 0
AreStacksOf draft choice rows = IsBatchOf draft choice (single_batch rows)

-- ---- faults

-- the fault stands at a sample, and the samples before it give a batch of so many values at most
pub record StandsAtSample (most : ℕ) (draft : Draft) (choice : ValueChoice) (fault : BatchFault) : Type 0 where
  pub first : ℕ
  pub before : List Sample
  pub sample : Sample
  pub after : List Sample
  pub batch : BatchState
  pub totals : List ℕ
  pub is_chosen : chosen_types_of draft choice ≡ Some (first, batch.width)
  pub few : batch.width ≤ most
  pub cut : draft.samples ≡ before ++ sample ∷ after
  pub rows_samples : AreRowsOfSamples draft first batch.width before batch.rows
  pub is_batch : IsBatch batch
  pub are_totals : AreTotals batch totals
  pub there : IsSampleFault draft first totals (length before) sample fault

-- Why a profile gives no batch of so many values at most: no value to take, or more than these; else the first sample
-- with a fault. Memory runs out only where there aren't more.
abbrev pub IsFirstSamplesFault : ℕ → Draft → ValueChoice → BatchFault → Type 0
IsFirstSamplesFault most draft choice NoValue = chosen_types_of draft choice ≡ None
IsFirstSamplesFault most draft choice (Width count) = (first : ℕ) × (chosen_types_of draft choice ≡ Some (first, count))
    × (most < count)
IsFirstSamplesFault most draft choice (Negative at) = StandsAtSample most draft choice (Negative at)
IsFirstSamplesFault most draft choice (Depth at) = StandsAtSample most draft choice (Depth at)
IsFirstSamplesFault most draft choice (Heavy at) = StandsAtSample most draft choice (Heavy at)
IsFirstSamplesFault most draft choice NoMemory = (first : ℕ) × (width : ℕ)
    × (chosen_types_of draft choice ≡ Some (first, width)) × (width ≤ most)

-- why a profile gives no batch
abbrev pub IsFirstBatchFault : Draft → ValueChoice → BatchFault → Type 0
IsFirstBatchFault draft choice fault = IsFirstSamplesFault most_values draft choice fault

-- why a profile gives no rows of one value
abbrev pub IsFirstStacksFault : Draft → ValueChoice → BatchFault → Type 0
IsFirstStacksFault draft choice fault = IsFirstSamplesFault 1 draft choice fault

-- Why work on a profile's rows of one value has no result, once it has begun: a fault stands at a sample, or memory
-- runs out after the last one.
abbrev pub IsStacksWorkFault : Draft → ValueChoice → BatchFault → Type 0
IsStacksWorkFault draft choice fault = StandsAtSample 1 draft choice fault
    ⊎ ((fault ≡ NoMemory) × (rows : List WeightedStack) × AreStacksOf draft choice rows)

-- ---- what a call gives

-- What a call gives that makes something of a profile's samples: what it is to make, or the first fault. Where they
-- give this, what it makes fits that, unless memory runs out; and where they have a fault, it is that one.
pub record Gives {T B : Type 0} (most : ℕ) (draft : Draft) (choice : ValueChoice) (Is : T → Type 0)
    (Given : B → Type 0) (Fits : B → T → Type 0) (result : Result T BatchFault) : Type 0 where
  pub read : MatchResult result Is (λ fault. IsFirstSamplesFault most draft choice fault)
  pub accepted : (given : B) → Given given → MatchResult result (Fits given) (λ fault. fault ≡ NoMemory)
  pub every_fault : (first : BatchFault) → first ≢ NoMemory → IsFirstSamplesFault most draft choice first
      → MatchResult result (λ made. ⊥) (λ fault. (fault ≡ NoMemory) ⊎ (fault ≡ first))

-- the batch of a profile's samples
abbrev pub GivesBatch : Draft → ValueChoice → Result BatchState BatchFault → Type 0
GivesBatch draft choice result =
    Gives most_values draft choice (IsBatchOf draft choice) (IsBatchOf draft choice) (λ batch made. made ≡ batch) result

-- what is to fit a profile's rows of one value
abbrev pub GivesOfStacks : {T : Type 0} → Draft → ValueChoice → (T → Type 0) → (List WeightedStack → T → Type 0)
    → Result T BatchFault → Type 0
GivesOfStacks draft choice Is Fits result = Gives 1 draft choice Is (AreStacksOf draft choice) Fits result
