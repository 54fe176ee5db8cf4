use Rattle.pprof_wire.proofs.VarintLaws.{IsReadSoFar}
use Rattle.pprof_wire.proofs.varints.long_varint.Given as goal

abbrev pub invariant-loop-count : goal.invariant-loop-count
invariant-loop-count l = IsReadSoFar l.bytes l.count l.number
