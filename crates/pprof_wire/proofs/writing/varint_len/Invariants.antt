use Rattle.std.proofs.Common.{◌≡◌, ℕ, List, ◌+◌, length}
use Rattle.pprof_wire.specs.Varints.{varint_of}
use Rattle.pprof_wire.proofs.ShortestVarints.{IsLeft}
use Rattle.pprof_wire.proofs.writing.varint_len.Given as goal

-- the groups that are left, with those that were counted, are as many as there are
pub record IsCounted (number rest len : ℕ) : Type 0 where
  pub groups : List ℕ
  pub left : IsLeft groups rest
  pub counted : len + length groups ≡ 1 + length (varint_of number)

abbrev pub invariant-loop-rest : goal.invariant-loop-rest
invariant-loop-rest l = IsCounted l.number l.rest l.len

abbrev pub decreases-loop-rest : goal.decreases-loop-rest
decreases-loop-rest l = l.rest
