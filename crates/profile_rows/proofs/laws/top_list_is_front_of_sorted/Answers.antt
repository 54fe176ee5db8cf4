use Rattle.profile_rows.proofs.Ranking.{top_list_of-ranked}
use Rattle.profile_rows.proofs.laws.top_list_is_front_of_sorted.Goals as goal

pub returns : goal.returns
returns c = top_list_of-ranked
