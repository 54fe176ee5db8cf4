use Rattle.pprof_profile.proofs.ProfileOnce.{draft_spelled_once}
use Rattle.pprof_profile.proofs.laws.one_profile.Goals as goal

pub returns : goal.returns
returns c = λ bytes one other left right. draft_spelled_once bytes one other left.spelled right.spelled
