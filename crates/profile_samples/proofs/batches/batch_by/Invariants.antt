use Rattle.profile_samples.proofs.SampleBatches.{IsBatchSoFar}
use Rattle.profile_samples.proofs.batches.batch_by.Given as goal

-- the samples so far give the batch so far
abbrev pub invariant-loop-index : goal.invariant-loop-index
invariant-loop-index l = IsBatchSoFar l.fn.profile l.chosen.first l.chosen.width l.index l.batch
