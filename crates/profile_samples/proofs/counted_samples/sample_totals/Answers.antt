-- The totals with copies of their names.
use Rattle.std.proofs.lemmas.Grind.{common_steps}
use Rattle.std.proofs.Common.{arith}
use Rattle.std.specs.Prelude.{Ok}
use Rattle.std.proofs.lemmas.Result.{err_from_is_err_and}
use Rattle.profile_samples.specs.CountedSamples.{AreTotalsOfSamples}
use Rattle.profile_samples.proofs.MergedSamples.{gives_totals}
use Rattle.profile_samples.proofs.SampleBatches.{memory_first}
use Rattle.profile_samples.proofs.counted_samples.sample_totals.Goals as goal

pub returns-in_err-keep : goal.returns-in_err-keep
returns-in_err-keep c =
    let sampled = c.in_ok-lent.ensures.read.sampled in
    gives_totals c.args.profile.now c.args.choice c.from_residual-in_err-keep.result
    (memory_first (AreTotalsOfSamples c.args.profile.now c.args.choice) 1 c.args.profile.now c.args.choice
    sampled.first 1 c.from_residual-in_err-keep.result sampled.is_chosen (omega arith)
    (grind (arith, common_steps, err_from_is_err_and)))

pub returns : goal.returns
returns c =
    let are = c.in_ok-lent.ensures.read in
    gives_totals c.args.profile.now c.args.choice (Ok _) (record {
      rows = are.rows;
      sampled = are.sampled;
      totals_rows = c.in_ok-keep.ensures are.rows are.totals_rows;
    })
