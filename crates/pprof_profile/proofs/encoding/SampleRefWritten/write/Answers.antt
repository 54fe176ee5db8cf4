use Rattle.std.proofs.lemmas.Grind.{common_steps}
use Rattle.std.proofs.Common.{arith}
use Rattle.std.proofs.lemmas.Result.{on_ok_weaker}
use Rattle.pprof_profile.proofs.Appending.{joined, on_ok_joined}
use Rattle.pprof_profile.proofs.encoding.SampleRefWritten.write.Goals as goal

pub returns-clause-written : goal.returns-clause-written
returns-clause-written c =
    let last = on_ok_weaker c.write_each.result (λ appended. appended.written) c.write_each.ensures in
    grind (arith, common_steps, joined, on_ok_joined)

pub returns-clause-fits : goal.returns-clause-fits
returns-clause-fits c = grind (arith, common_steps, on_ok_weaker)
