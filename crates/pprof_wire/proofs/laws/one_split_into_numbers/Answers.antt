use Rattle.pprof_wire.proofs.ListLaws.{numbers_split_once}
use Rattle.pprof_wire.proofs.laws.one_split_into_numbers.Goals as goal

pub returns : goal.returns
returns c = numbers_split_once
