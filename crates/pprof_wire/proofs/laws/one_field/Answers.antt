use Rattle.pprof_wire.proofs.FieldLaws.{field_once}
use Rattle.pprof_wire.proofs.laws.one_field.Goals as goal

pub returns : goal.returns
returns c = field_once
