use Rattle.log_audit.specs.Replays.{IsFollowed, IsLowestOf}
use Rattle.log_audit.proofs.replay.first_wrong.Given as goal

abbrev pub invariant-loop-at : goal.invariant-loop-at
invariant-loop-at l = IsFollowed l.ordered l.at l.fn.width l.followed × IsLowestOf l.ordered l.at l.lowest
