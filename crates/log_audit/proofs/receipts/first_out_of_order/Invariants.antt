use Rattle.std.proofs.Common.{All, take}
use Rattle.log_audit.specs.Matching.{IsInOrder}
use Rattle.log_audit.proofs.receipts.first_out_of_order.Given as goal

abbrev pub invariant-loop-one : goal.invariant-loop-one
invariant-loop-one l = All IsInOrder (take l.one-index l.all)
