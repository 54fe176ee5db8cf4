use Rattle.std.proofs.lemmas.Grind.{common_steps}
use Rattle.std.proofs.Common.{drop, arith}
use Rattle.pprof_wire.specs.Varints.{IsVarint}
use Rattle.pprof_wire.proofs.VarintLaws.{varint_once, fault_without_number, varint_fault_once, past_end}
use Rattle.pprof_wire.proofs.SpelledLists.{read_once, not_at_front}
use Rattle.pprof_wire.proofs.varints.read_varint.Goals as goal

pub returns-then-at-bytes-clause-every_spelling : goal.returns-then-at-bytes-clause-every_spelling
returns-then-at-bytes-clause-every_spelling c = grind (arith, common_steps, fault_without_number, past_end)

pub returns-then-at-bytes-clause-every_fault : goal.returns-then-at-bytes-clause-every_fault
returns-then-at-bytes-clause-every_fault c = grind (arith, common_steps, varint_fault_once, past_end)

pub returns-in_err-number-clause-every_spelling : goal.returns-in_err-number-clause-every_spelling
returns-in_err-number-clause-every_spelling c = grind (arith, common_steps, fault_without_number)

pub returns-clause-every_spelling : goal.returns-clause-every_spelling
returns-clause-every_spelling c = λ spelling rest number same spelled.
    let once = read_once IsVarint varint_once (drop c.args.at c.args.bytes.now) spelling rest c.in_ok-number.len
    c.in_ok-number.number number (rw c.bytes_from.ensures.value at c.in_ok-number.ensures) same spelled in
    cc (once.0, once.1)

pub returns-clause-every_fault : goal.returns-clause-every_fault
returns-clause-every_fault c = λ fault faulty.
    absurd (not_at_front IsVarint (drop c.args.at c.args.bytes.now) c.in_ok-number.len c.in_ok-number.number
    (fault_without_number fault (drop c.args.at c.args.bytes.now) faulty)
    (rw c.bytes_from.ensures.value at c.in_ok-number.ensures))
