use Rattle.std.proofs.Common.{◌++◌, refl}
use Rattle.pprof_wire.proofs.FieldLaws.{front_fault_once}
use Rattle.pprof_wire.proofs.ListLaws.{fault_without_field}
use Rattle.pprof_wire.proofs.laws.one_field_or_fault.Goals as goal

pub returns : goal.returns
returns c = record {
  field = λ fault a x field spelled faulty. fault_without_field fault (a ++ x) faulty a x field refl spelled;
  fault = λ one other bytes left right. front_fault_once one other bytes left.front right.front;
}
