use Rattle.std.proofs.Common.{◌≡◌, map, pos, take}
use Rattle.profile_samples.proofs.exporting.values_of.Given as goal

-- the values so far
abbrev pub invariant-loop-weight : goal.invariant-loop-weight
invariant-loop-weight l = l.values.items ≡ map pos (take l.weight-index l.fn.weights)
