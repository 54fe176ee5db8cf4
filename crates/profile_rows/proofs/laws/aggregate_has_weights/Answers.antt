use Rattle.profile_rows.proofs.RowLaws.{weight_in-aggregate_of}
use Rattle.profile_rows.proofs.laws.aggregate_has_weights.Goals as goal

pub returns : goal.returns
returns c = weight_in-aggregate_of
