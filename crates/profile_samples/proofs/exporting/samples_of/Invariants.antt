use Rattle.std.proofs.Common.{◌≡◌, map, take}
use Rattle.profile_samples.specs.Export.{exported_sample}
use Rattle.profile_samples.proofs.exporting.samples_of.Given as goal

-- the samples so far
abbrev pub invariant-loop-at : goal.invariant-loop-at
invariant-loop-at l = l.samples ≡ map (exported_sample l.fn.names.texts) (take l.at l.fn.batch.rows)
