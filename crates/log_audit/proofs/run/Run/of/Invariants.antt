use Rattle.std.proofs.Common.{◌≡◌, map, take}
use Rattle.log_audit.specs.Matching.{step_of}
use Rattle.log_audit.proofs.run.Run.of.Given as goal

abbrev pub invariant-loop-one : goal.invariant-loop-one
invariant-loop-one l = l.steps.items ≡ map step_of (take l.one-index l.ordered)
