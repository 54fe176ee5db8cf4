-- What stands at a sample is the first fault, and what is read decides what batch there is.
use Rattle.std.proofs.lemmas.Grind.{common_steps}
use Rattle.std.proofs.Common.{arith}
use Rattle.std.proofs.lemmas.Result.{err_from_is_err_and}
use Rattle.profile_samples.specs.Batches.{IsBatchOf}
use Rattle.profile_samples.proofs.FirstFaults.{gives_batch}
use Rattle.profile_samples.proofs.SampleBatches.{first_of_standing, memory_first}
use Rattle.profile_samples.proofs.SampleRows.{chosen_types_within}
use Rattle.profile_samples.proofs.batches.batch_of_with.Goals as goal

pub returns-in_err-chosen : goal.returns-in_err-chosen
returns-in_err-chosen c =
    gives_batch c.args.profile.now c.args.choice c.from_residual.result
    (grind (arith, common_steps, err_from_is_err_and))

pub returns-in_err-frames : goal.returns-in_err-frames
returns-in_err-frames c =
    gives_batch c.args.profile.now c.args.choice c.from_residual-in_err-frames.result
    (memory_first (IsBatchOf c.args.profile.now c.args.choice) 4 c.args.profile.now c.args.choice
    c.in_ok-chosen.chosen.first c.in_ok-chosen.chosen.width c.from_residual-in_err-frames.result
    (rw c.draft.ensures.draft at c.in_ok-chosen.ensures.chosen) c.in_ok-chosen.ensures.few
    (grind (arith, common_steps, err_from_is_err_and)))

pub batch_by-batch-requires-clause-typed : goal.batch_by-batch-requires-clause-typed
batch_by-batch-requires-clause-typed c =
    chosen_types_within c.args.profile.now c.args.choice c.in_ok-chosen.chosen.first c.in_ok-chosen.chosen.width
    (rw c.draft.ensures.draft at c.in_ok-chosen.ensures.chosen)

pub returns : goal.returns
returns c =
    gives_batch c.args.profile.now c.args.choice c.batch_by-batch.result
    (first_of_standing (IsBatchOf c.args.profile.now c.args.choice) 4 c.args.profile.now c.args.choice
    c.batch_by-batch.result
    (c.batch_by-batch.ensures c.args.choice (rw c.draft.ensures.draft at c.in_ok-chosen.ensures.chosen)))
