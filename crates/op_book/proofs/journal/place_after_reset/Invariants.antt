use Rattle.std.proofs.Common.{◌≡◌, take}
use Rattle.op_book.specs.Operations.{counting_from, operations_of}
use Rattle.op_book.proofs.journal.place_after_reset.Given as goal

-- where counting begins after the entries so far
abbrev pub invariant-loop-place : goal.invariant-loop-place
invariant-loop-place l = l.after ≡ counting_from (operations_of (take l.place l.entries))
