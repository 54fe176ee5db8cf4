use Rattle.std.proofs.Common.{arith}
use Rattle.std.proofs.lemmas.Grind.{common_steps}
use Rattle.pprof_wire.proofs.FieldLaws.{delimited_read}
use Rattle.pprof_wire.proofs.values.first_delimited.Goals as goal

pub returns : goal.returns
returns c = grind (arith, common_steps, delimited_read)
