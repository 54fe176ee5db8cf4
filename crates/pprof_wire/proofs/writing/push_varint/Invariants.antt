use Rattle.std.proofs.Common.{◌≡◌, ℕ, List, ◌+◌, ◌≤◌, ◌++◌, length, vec_len, vec_capacity}
use Rattle.pprof_wire.specs.Varints.{varint_of}
use Rattle.pprof_wire.proofs.ShortestVarints.{IsLeft}
use Rattle.pprof_wire.proofs.writing.push_varint.Given as goal

-- what was written, with the groups that are left, is the whole, and there is room for it
pub record IsWritten (start items : List ℕ) (number rest len capacity : ℕ) : Type 0 where
  pub groups : List ℕ
  pub left : IsLeft groups rest
  pub joined : items ++ groups ≡ start ++ varint_of number
  pub room : len + length groups ≤ capacity

abbrev pub invariant-loop-rest : goal.invariant-loop-rest
invariant-loop-rest l =
    IsWritten l.initial.out.items l.out.items l.number l.rest (vec_len l.out) (vec_capacity l.out)
    × (vec_capacity l.initial.out ≤ vec_capacity l.out)

abbrev pub decreases-loop-rest : goal.decreases-loop-rest
decreases-loop-rest l = l.rest
