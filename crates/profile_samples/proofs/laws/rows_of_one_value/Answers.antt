use Rattle.profile_samples.proofs.SampleBatches.{batch_of_one}
use Rattle.profile_samples.proofs.laws.rows_of_one_value.Goals as goal

pub returns : goal.returns
returns c = batch_of_one
