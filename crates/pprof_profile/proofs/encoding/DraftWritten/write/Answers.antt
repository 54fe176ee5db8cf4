use Rattle.std.proofs.Common.{arith}
use Rattle.pprof_profile.proofs.Appending.{joined}
use Rattle.pprof_profile.proofs.encoding.DraftWritten.write.Goals as goal

pub returns-clause-written : goal.returns-clause-written
returns-clause-written c = grind (arith, joined)
