-- What is answered for a profile's samples decides what its rows add up to.
use Rattle.std.proofs.Common.{◌≡◌, List, ℕ, Some, arith, sym, ◌∙◌}
use Rattle.std.specs.Prelude.{Result, MatchResult}
use Rattle.pprof_profile.specs.declared.messages.Draft.{Draft}
use Rattle.pprof_profile.specs.SampleLists.{ListedSamples}
use Rattle.pprof_profile.specs.Valid.{IsValidDraft}
use Rattle.profile_rows.specs.declared.weighted_stacks.WeightedStack.{WeightedStack}
use Rattle.profile_rows.specs.declared.frame_totals.FrameTotals.{FrameTotals}
use Rattle.profile_rows.specs.Aggregate.{aggregate_of}
use Rattle.profile_rows.specs.TopList.{AreTotalsOf}
use Rattle.profile_samples.specs.declared.sampling.BatchFault.{BatchFault}
use Rattle.profile_samples.specs.declared.sampling.ValueChoice.{ValueChoice}
use Rattle.profile_samples.specs.Batches.{GivesOfStacks, IsFirstStacksFault}
use Rattle.profile_samples.specs.CountedSamples.{AreTotalsOfSamples}
use Rattle.profile_samples.specs.LocationSums.{AreReadyToSum, LocationSum, sums_without_weight}
use Rattle.profile_samples.specs.MergedSamples.{IsMergedBatch}
use Rattle.profile_samples.specs.Samples.{chosen_types_of}
use Rattle.profile_samples.proofs.FirstFaults.{gives_of_stacks}
use Rattle.profile_samples.proofs.SampleRows.{chosen_types_within}

pub gives_merged : (draft : Draft) (choice : ValueChoice) (result : Result (List WeightedStack) BatchFault)
    → MatchResult result (IsMergedBatch draft choice) (λ fault. IsFirstStacksFault draft choice fault)
    → GivesOfStacks draft choice (IsMergedBatch draft choice)
    (λ rows sums. aggregate_of sums ≡ aggregate_of rows) result
gives_merged draft choice =
    gives_of_stacks draft choice (IsMergedBatch draft choice) (λ rows sums. aggregate_of sums ≡ aggregate_of rows)
    (λ sums is. (is.rows, is.sampled, is.same))

pub gives_totals : (draft : Draft) (choice : ValueChoice) (result : Result FrameTotals BatchFault)
    → MatchResult result (AreTotalsOfSamples draft choice) (λ fault. IsFirstStacksFault draft choice fault)
    → GivesOfStacks draft choice (AreTotalsOfSamples draft choice) AreTotalsOf result
gives_totals draft choice =
    gives_of_stacks draft choice (AreTotalsOfSamples draft choice) AreTotalsOf
    (λ totals are. (are.rows, are.sampled, are.totals_rows))

-- a profile's draft, its frames and its lists of locations are what is summed over
pub ready_to_sum : (draft lent frames : Draft) (choice : ValueChoice) (chosen : ℕ) (samples : ListedSamples)
    (sums : List LocationSum) → lent ≡ draft → IsValidDraft draft → frames ≡ draft
    → chosen_types_of lent choice ≡ Some (chosen, 1) → samples.samples ≡ lent.samples
    → sums ≡ sums_without_weight samples.lists → AreReadyToSum lent frames samples sums chosen
ready_to_sum draft lent frames choice chosen samples sums same valid framed chosen_is own none =
    let within = chosen_types_within lent choice chosen 1 chosen_is in
    record {
      valid = rw same valid;
      framed = framed ∙ sym same;
      typed = omega (arith, within);
      own = own;
      none = none;
    }
