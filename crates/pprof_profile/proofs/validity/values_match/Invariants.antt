use Rattle.std.proofs.Common.{◌≡◌, take, true}
use Rattle.pprof_profile.specs.Valid.{each_has_values}
use Rattle.pprof_profile.proofs.validity.values_match.Given as goal

abbrev pub invariant-loop-index : goal.invariant-loop-index
invariant-loop-index l = each_has_values l.count (take l.index l.samples) ≡ true
