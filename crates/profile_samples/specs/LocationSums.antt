-- What samples weigh by the lists of their locations.
use Rattle.std.specs.Prelude.{ℕ, ◌≡◌, ◌+◌, ◌<◌, ◌≤◌, All, List, [], ◌∷◌, length, map, slice_index_or, slice_set, sum_by}
use Rattle.pprof_profile.specs.SampleLists.{ListedSamples}
use Rattle.pprof_profile.specs.Valid.{IsValidDraft}
use Rattle.pprof_profile.specs.declared.messages.Draft.{Draft}
use Rattle.profile_rows.specs.declared.weighted_stacks.WeightedStack.{WeightedStack}
use Rattle.profile_rows.specs.Limits.{most_frames}
use Rattle.profile_rows.specs.Merging.{AreMergedSoFar}
use Rattle.profile_samples.specs.declared.sampling.ValueChoice.{ValueChoice}
use Rattle.profile_samples.specs.Batches.{AreStacksOf}
use Rattle.profile_samples.specs.Samples.{sample_stack_of}

-- a list of locations, and what the samples that have it weigh together
pub record LocationSum : Type 0 where
  pub ids : List ℕ
  pub weight : ℕ

-- lists with what each weighs
abbrev pub location_sums : List (List ℕ) → List ℕ → List LocationSum
location_sums [] weights = []
location_sums (ids ∷ lists) [] = []
location_sums (ids ∷ lists) (weight ∷ weights) = (record { ids = ids; weight = weight }) ∷ location_sums lists weights

-- lists that weigh nothing yet
abbrev pub sum_without_weight : List ℕ → LocationSum
sum_without_weight ids = record { ids = ids; weight = 0 }

abbrev pub sums_without_weight : List (List ℕ) → List LocationSum
sums_without_weight lists = map sum_without_weight lists

-- what they weigh together
abbrev pub total_of_sums : List LocationSum → ℕ
total_of_sums sums = sum_by (λ (sum : LocationSum). sum.weight) sums

-- the sum at an index; past the end one without locations and weight
abbrev pub sum_at : List LocationSum → ℕ → LocationSum
sum_at sums at = slice_index_or sums at (record { ids = []; weight = 0 })

-- the sums, of which the one at an index weighs so much more
abbrev pub with_raised_at : List LocationSum → ℕ → ℕ → List LocationSum
with_raised_at sums at weight =
    slice_set sums at (record { ids = (sum_at sums at).ids; weight = (sum_at sums at).weight + weight })

-- the row of a list's stack
abbrev pub row_of_sum : Draft → LocationSum → WeightedStack
row_of_sum draft sum = record { stack = sample_stack_of draft sum.ids; weight = sum.weight }

abbrev pub rows_of_sums : Draft → List LocationSum → List WeightedStack
rows_of_sums draft sums = map (row_of_sum draft) sums

-- a stack can have the frames of each list that weighs something
abbrev pub FitStacks : Draft → List LocationSum → Type 0
FitStacks draft sums =
    All (λ (sum : LocationSum). 0 < sum.weight → length (sample_stack_of draft sum.ids) ≤ most_frames) sums

-- a valid draft, its frames, its samples, their lists without weight, and a value that each sample has
pub record AreReadyToSum (draft frames : Draft) (samples : ListedSamples) (sums : List LocationSum) (chosen : ℕ)
    : Type 0 where
  pub valid : IsValidDraft draft
  pub framed : frames ≡ draft
  pub typed : chosen < length draft.sample_types
  pub own : samples.samples ≡ draft.samples
  pub none : sums ≡ sums_without_weight samples.lists

-- the lists' rows add up to those of a profile's samples
pub record AreSampleSums (draft : Draft) (choice : ValueChoice) (sums : List LocationSum) : Type 0 where
  pub rows : List WeightedStack
  pub sampled : AreStacksOf draft choice rows
  pub merged : AreMergedSoFar rows (rows_of_sums draft sums)
