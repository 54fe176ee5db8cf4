use Rattle.std.proofs.Common.{◌≡◌, ℕ, List, ◌≤◌, ◌++◌, length}
use Rattle.pprof_wire.specs.Fields.{PlainField, IsFieldList}
use Rattle.library_steps.proofs.wire.count_fields.Given as goal

-- the bytes so far are so many fields
pub record IsCounted (bytes rest : List ℕ) (count : ℕ) : Type 0 where
  pub front : List ℕ
  pub fields : List PlainField
  pub parts : bytes ≡ front ++ rest
  pub listed : IsFieldList front fields
  pub counted : count ≡ length fields
  pub fits : count ≤ length front

abbrev pub invariant-loop-read : goal.invariant-loop-read
invariant-loop-read l = IsCounted l.bytes l.fields.bytes l.count

abbrev pub decreases-loop-read : goal.decreases-loop-read
decreases-loop-read l = length l.fields.bytes
