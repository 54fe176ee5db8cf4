use Rattle.pprof_wire.proofs.ListLaws.{fields_split_once}
use Rattle.pprof_wire.proofs.laws.one_split_into_fields.Goals as goal

pub returns : goal.returns
returns c = fields_split_once
