use Rattle.pprof_profile.proofs.LocationLists.{pushed_number}
use Rattle.pprof_profile.proofs.location_lists.LocationLists.number_with.Goals as goal

pub returns : goal.returns
returns c = pushed_number _ _ _ _ c.push.ensures
