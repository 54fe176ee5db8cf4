use Rattle.std.proofs.Common.{◌≡◌, map, take}
use Rattle.profile_samples.specs.Export.{exported_type, pairs_of}
use Rattle.profile_samples.proofs.exporting.types_of.Given as goal

-- the sample types so far
abbrev pub invariant-loop-unit : goal.invariant-loop-unit
invariant-loop-unit l = l.types.items ≡ map (exported_type l.fn.strings.texts) (pairs_of (take l.unit-index l.units))
