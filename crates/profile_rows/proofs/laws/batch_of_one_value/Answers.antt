use Rattle.profile_rows.proofs.RowValues.{single_batch-rows_at}
use Rattle.profile_rows.proofs.laws.batch_of_one_value.Goals as goal

pub returns : goal.returns
returns c = single_batch-rows_at
