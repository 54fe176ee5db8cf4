use Rattle.std.proofs.Common.{◌≡◌, take, true}
use Rattle.std.specs.List.{list_all}
use Rattle.pprof_profile.specs.Valid.{sample_indexes}
use Rattle.pprof_profile.proofs.indices.samples_hold.Given as goal

abbrev pub invariant-loop-index : goal.invariant-loop-index
invariant-loop-index l = list_all (sample_indexes l.count) (take l.index l.samples) ≡ true
