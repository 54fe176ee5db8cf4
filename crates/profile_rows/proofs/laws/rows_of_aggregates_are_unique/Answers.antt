use Rattle.profile_rows.proofs.UniqueRows.{same_rows}
use Rattle.profile_rows.proofs.laws.rows_of_aggregates_are_unique.Goals as goal

pub returns : goal.returns
returns c = same_rows
