use Rattle.std.proofs.Common.{arith}
use Rattle.pprof_profile.proofs.Appending.{joined, on_ok_joined}
use Rattle.pprof_profile.proofs.encoding.write_after_samples.Goals as goal

pub returns-clause-written : goal.returns-clause-written
returns-clause-written c = grind (arith, joined, on_ok_joined)
