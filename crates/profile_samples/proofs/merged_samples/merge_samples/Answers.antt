-- What stands at a sample is the first fault.
use Rattle.std.proofs.lemmas.Grind.{common_steps}
use Rattle.std.proofs.Common.{arith}
use Rattle.profile_samples.proofs.MergedSamples.{gives_merged, ready_to_sum}
use Rattle.profile_samples.proofs.SampleBatches.{first_of_work, memory_first}
use Rattle.std.proofs.lemmas.Result.{err_from_is_err_and}
use Rattle.profile_samples.specs.MergedSamples.{IsMergedBatch}
use Rattle.profile_samples.proofs.merged_samples.merge_samples.Goals as goal

pub returns-in_err-chosen : goal.returns-in_err-chosen
returns-in_err-chosen c =
    gives_merged c.args.profile.now c.args.choice c.from_residual.result
    (grind (arith, common_steps, err_from_is_err_and))

pub returns-in_err-frames : goal.returns-in_err-frames
returns-in_err-frames c =
    gives_merged c.args.profile.now c.args.choice c.from_residual-in_err-frames.result
    (memory_first (IsMergedBatch c.args.profile.now c.args.choice) 1 c.args.profile.now c.args.choice
    c.in_ok-chosen.chosen 1 c.from_residual-in_err-frames.result
    (rw c.draft-draft.ensures.draft at c.in_ok-chosen.ensures)
    (omega arith) (grind (arith, common_steps, err_from_is_err_and)))

pub returns-in_err-sums : goal.returns-in_err-sums
returns-in_err-sums c =
    gives_merged c.args.profile.now c.args.choice c.from_residual-in_err-sums.result
    (memory_first (IsMergedBatch c.args.profile.now c.args.choice) 1 c.args.profile.now c.args.choice
    c.in_ok-chosen.chosen 1 c.from_residual-in_err-sums.result
    (rw c.draft-draft.ensures.draft at c.in_ok-chosen.ensures)
    (omega arith) (grind (arith, common_steps, err_from_is_err_and)))

pub merged_by-merged-requires : goal.merged_by-merged-requires
merged_by-merged-requires c =
    ready_to_sum c.args.profile.now c.draft-draft.result.now c.in_ok-frames.frames c.args.choice
    c.in_ok-chosen.chosen c.by_list-samples.result c.in_ok-sums.sums c.draft-draft.ensures.draft
    c.draft-draft.ensures.valid c.in_ok-frames.ensures c.in_ok-chosen.ensures c.by_list-samples.ensures
    c.in_ok-sums.ensures

pub returns : goal.returns
returns c =
    gives_merged c.args.profile.now c.args.choice c.merged_by-merged.result
    (first_of_work (IsMergedBatch c.args.profile.now c.args.choice) c.args.profile.now c.args.choice
    c.merged_by-merged.result
    (rw c.draft-draft.ensures.draft at (c.merged_by-merged.ensures c.args.choice c.in_ok-chosen.ensures)))
