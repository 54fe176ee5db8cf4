-- The samples are read in order: each is a row more, or has the first fault.
use Rattle.std.proofs.lemmas.Grind.{common_steps}
use Rattle.std.proofs.Common.{arith}
use Rattle.std.proofs.lemmas.Result.{err_from_is_err_and}
use Rattle.profile_samples.proofs.SampleBatches.{IsBatchSoFar-row, IsBatchSoFar-end, IsBatchSoFar-stands}
use Rattle.profile_samples.proofs.SampleRows.{has_values, samples_read}
use Rattle.profile_samples.proofs.batches.batch_by.Goals as goal

pub add_sample-requires-clause-values : goal.add_sample-requires-clause-values
add_sample-requires-clause-values c =
    has_values c.args.profile.now c.args.chosen.now.first c.args.chosen.now.width c.loop-index.index
    c.at-sample.result c.draft.ensures.valid c.requires.typed (rw c.draft.ensures.draft at c.at-sample.ensures)

pub returns-in_err-add_sample : goal.returns-in_err-add_sample
returns-in_err-add_sample c = λ choice is_chosen.
    let p = err_from_is_err_and c.from_residual.result c.from_residual.ensures.1 in
    let (totals, are, fault) = c.in_err-add_sample.ensures in
    let few = c.loop-index.invariant.is.few in
    let wide = c.loop-index.invariant.wide in
    rw (p.1, p.2) (IsBatchSoFar-stands 4 c.args.profile.now choice c.args.chosen.now.first c.args.chosen.now.width
    c.loop-index.index c.at-sample.result c.loop-index.batch totals c.in_err-add_sample.field-0.0 is_chosen
    (omega (arith, few, wide)) (rw c.draft.ensures.draft at c.at-sample.ensures)
    c.loop-index.invariant are (rw c.requires.framed at fault))

pub loop-index-preserved : goal.loop-index-preserved
loop-index-preserved c =
    let (row, this, room, more) = c.in_ok-add_sample.ensures in
    IsBatchSoFar-row c.args.profile.now c.args.chosen.now.first c.args.chosen.now.width c.loop-index.index
    c.at-sample.result c.loop-index.batch row _ (rw c.draft.ensures.draft at c.at-sample.ensures)
    c.loop-index.invariant (rw c.requires.framed at this) room more

pub returns : goal.returns
returns c = grind (arith, common_steps, IsBatchSoFar-end, samples_read)
