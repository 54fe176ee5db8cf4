-- What the rows of a profile's samples add up to.
use Rattle.std.specs.Prelude.{◌≡◌, List}
use Rattle.pprof_profile.specs.declared.messages.Draft.{Draft}
use Rattle.profile_rows.specs.declared.weighted_stacks.WeightedStack.{WeightedStack}
use Rattle.profile_rows.specs.Aggregate.{aggregate_of}
use Rattle.profile_samples.specs.declared.sampling.ValueChoice.{ValueChoice}
use Rattle.profile_samples.specs.Batches.{AreStacksOf}

-- the rows add up to those of a profile's samples
pub record IsMergedBatch (draft : Draft) (choice : ValueChoice) (merged : List WeightedStack) : Type 0 where
  pub rows : List WeightedStack
  pub sampled : AreStacksOf draft choice rows
  pub same : aggregate_of merged ≡ aggregate_of rows
