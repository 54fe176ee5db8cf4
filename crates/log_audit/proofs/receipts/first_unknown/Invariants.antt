use Rattle.std.proofs.Common.{All, take}
use Rattle.log_audit.specs.Matching.{IsKnown}
use Rattle.log_audit.proofs.receipts.first_unknown.Given as goal

abbrev pub invariant-loop-one : goal.invariant-loop-one
invariant-loop-one l = All (IsKnown l.journal) (take l.one-index l.all)
