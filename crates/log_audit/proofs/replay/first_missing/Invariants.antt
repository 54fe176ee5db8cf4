use Rattle.std.proofs.Common.{take}
use Rattle.log_audit.proofs.Numbering.{IsCounted}
use Rattle.log_audit.proofs.replay.first_missing.Given as goal

abbrev pub invariant-loop-one : goal.invariant-loop-one
invariant-loop-one l = IsCounted (take l.one-index l.ordered) l.done
