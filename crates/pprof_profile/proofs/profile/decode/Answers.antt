use Rattle.pprof_profile.proofs.ProfileOnce.{decoded}
use Rattle.pprof_profile.proofs.profile.decode.Goals as goal

pub returns : goal.returns
returns c = decoded c.args.bytes.now c.read_profile.result c.read_profile.ensures
