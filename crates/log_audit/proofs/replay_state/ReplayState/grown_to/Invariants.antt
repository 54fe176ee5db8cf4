use Rattle.std.proofs.Common.{◌≡◌, take}
use Rattle.log_audit.specs.Replays.{IsTreeOf, ops_in}
use Rattle.log_audit.proofs.replay_state.ReplayState.grown_to.Given as goal

abbrev pub invariant-loop-place : goal.invariant-loop-place
invariant-loop-place l = (l.grower.width ≡ l.fn.self.grower.width) × IsTreeOf (ops_in (take l.place l.ordered)) l.grower
