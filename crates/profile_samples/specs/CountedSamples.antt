-- What the names of a profile's frames weigh, by their numbers.
use Rattle.std.specs.Prelude.{ℕ, ◌≡◌, ◌<◌, All, List, length}
use Rattle.pprof_profile.specs.declared.messages.Draft.{Draft}
use Rattle.profile_rows.specs.declared.frame_totals.FrameTotals.{FrameTotals}
use Rattle.profile_rows.specs.declared.weighted_stacks.WeightedStack.{WeightedStack}
use Rattle.profile_rows.specs.Names.{IsName}
use Rattle.profile_rows.specs.Rows.{has_name}
use Rattle.name_counts.specs.declared.tallies.Tallies.{Tallies}
use Rattle.name_counts.specs.Tallies.{AreTalliesOf}
use Rattle.name_counts.specs.TextTables.{names_at}
use Rattle.profile_rows.specs.TopList.{AreTotalsOf}
use Rattle.profile_samples.specs.declared.sampling.ValueChoice.{ValueChoice}
use Rattle.profile_samples.specs.NameNumbers.{frame_names}
use Rattle.profile_samples.specs.Batches.{AreStacksOf}
use Rattle.profile_samples.specs.Samples.{frames_of_ids}

-- the numbers of the names of locations, which names stand in their frames
pub record AreNumbersOfIds (draft : Draft) (ids numbers : List ℕ) : Type 0 where
  pub inside : All (λ number. number < length (frame_names draft)) numbers
  pub same : (name : List ℕ)
      → has_name name (names_at (frame_names draft) numbers) ≡ has_name name (frames_of_ids draft ids)

-- what the names weigh in the rows of a profile's samples
pub record AreTotalsOfSamples (draft : Draft) (choice : ValueChoice) (totals : FrameTotals) : Type 0 where
  pub rows : List WeightedStack
  pub sampled : AreStacksOf draft choice rows
  pub totals_rows : AreTotalsOf rows totals

-- the rows are counted by the numbers of the names of a profile's frames
pub record HaveCounted (draft : Draft) (rows : List WeightedStack) (tallies : Tallies) : Type 0 where
  pub named : All IsName (frame_names draft)
  pub counted : AreTalliesOf rows (frame_names draft) tallies
