use Rattle.profile_samples.proofs.SampleBatches.{AreTaken}
use Rattle.profile_samples.proofs.batches.weights_of.Given as goal

-- the values so far are in their places
abbrev pub invariant-loop-value : goal.invariant-loop-value
invariant-loop-value l = AreTaken l.fn.values l.chosen.first l.value l.four
