use Rattle.pprof_wire.proofs.ListLaws.{fault_ends}
use Rattle.pprof_wire.proofs.laws.fields_up_to_the_end_or_a_fault.Goals as goal

pub returns-clause-fault : goal.returns-clause-fault
returns-clause-fault c = fault_ends
