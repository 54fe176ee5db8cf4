use Rattle.std.proofs.Common.{ap, ◌∙◌, sym, subst}
use Rattle.pprof_wire.specs.Windows.{Window}
use Rattle.pprof_wire.specs.Fields.{field_of, IsFieldSpelling, IsFrontFault}
use Rattle.pprof_wire.proofs.FieldLaws.{field_once, fault_without_front, front_fault_once}
use Rattle.pprof_wire.proofs.SpelledLists.{read_once, not_at_front}
use Rattle.pprof_wire.proofs.fields.Fields.next_field.Goals as goal

pub returns-in-Ok-clause-every_field : goal.returns-in-Ok-clause-every_field
returns-in-Ok-clause-every_field c = λ spelling rest field same spelled.
    let bytes-are = ap (λ (window : Window). window.bytes) c.self.view_is in
    let once = read_once IsFieldSpelling field_once c.self.inside.rest.now spelling rest c.in-Ok.len
    (field_of c.in-Ok.field) field c.in-Ok.ensures.0 (bytes-are ∙ same) spelled in
    (once.0, c.bytes_from-self-inside.ensures.value ∙ once.2)

pub returns-in-Ok-clause-every_fault : goal.returns-in-Ok-clause-every_fault
returns-in-Ok-clause-every_fault c = λ fault faulty.
    let bytes-are = ap (λ (window : Window). window.bytes) c.self.view_is in
    absurd (not_at_front IsFieldSpelling c.self.inside.rest.now c.in-Ok.len (field_of c.in-Ok.field)
    (fault_without_front fault c.self.inside.rest.now (subst (IsFrontFault fault) (sym bytes-are) faulty.front))
    c.in-Ok.ensures.0)

pub returns-in-Err-clause-every_field : goal.returns-in-Err-clause-every_field
returns-in-Err-clause-every_field c = λ spelling rest field same spelled.
    let bytes-are = ap (λ (window : Window). window.bytes) c.self.view_is in
    absurd (fault_without_front c.in-Err.fault c.self.inside.rest.now c.in-Err.ensures spelling rest field
    (bytes-are ∙ same) spelled)

pub returns-in-Err-clause-every_fault : goal.returns-in-Err-clause-every_fault
returns-in-Err-clause-every_fault c = λ fault faulty.
    let bytes-are = ap (λ (window : Window). window.bytes) c.self.view_is in
    let once = front_fault_once c.in-Err.fault fault c.self.inside.rest.now c.in-Err.ensures
    (subst (IsFrontFault fault) (sym bytes-are) faulty.front) in
    cc once
