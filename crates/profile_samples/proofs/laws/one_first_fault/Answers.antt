use Rattle.profile_samples.proofs.FirstFaults.{IsFirstSamplesFault-same}
use Rattle.profile_samples.proofs.laws.one_first_fault.Goals as goal

pub returns-clause-batch : goal.returns-clause-batch
returns-clause-batch c = IsFirstSamplesFault-same 4

pub returns-clause-stacks : goal.returns-clause-stacks
returns-clause-stacks c = IsFirstSamplesFault-same 1
