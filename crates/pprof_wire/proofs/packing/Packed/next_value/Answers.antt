use Rattle.std.proofs.lemmas.Grind.{common_steps}
use Rattle.std.proofs.Common.{arith, ◌∙◌, sym, subst}
use Rattle.pprof_wire.specs.Varints.{IsVarint, IsVarintFault}
use Rattle.pprof_wire.proofs.VarintLaws.{varint_once, fault_without_number}
use Rattle.pprof_wire.proofs.SpelledLists.{read_once, not_at_front}
use Rattle.pprof_wire.proofs.packing.Packed.next_value.Goals as goal

pub returns-in-Ok-clause-every_number : goal.returns-in-Ok-clause-every_number
returns-in-Ok-clause-every_number c = λ spelling rest number same spelled.
    let once = read_once IsVarint varint_once c.self.inside.rest.now spelling rest c.in-Ok.len c.in-Ok.number number
    c.in-Ok.ensures (c.self.view_is ∙ same) spelled in
    (cc (once.0), c.bytes_from-self-inside.ensures.value ∙ once.2)

pub returns-in-Ok-clause-every_fault : goal.returns-in-Ok-clause-every_fault
returns-in-Ok-clause-every_fault c = λ fault some faulty.
    absurd (not_at_front IsVarint c.self.inside.rest.now c.in-Ok.len c.in-Ok.number
    (fault_without_number fault c.self.inside.rest.now (subst (IsVarintFault fault) (sym c.self.view_is) faulty))
    c.in-Ok.ensures)

pub returns-in-Err-clause-every_number : goal.returns-in-Err-clause-every_number
returns-in-Err-clause-every_number c = grind (arith, common_steps, fault_without_number)
