use Rattle.std.proofs.Common.{◌≡◌, map, take}
use Rattle.profile_samples.specs.Export.{exported_location}
use Rattle.profile_samples.proofs.exporting.locations_of.Given as goal

-- the locations so far
abbrev pub invariant-loop-index : goal.invariant-loop-index
invariant-loop-index l =
    l.locations.items ≡ map (exported_location l.fn.names.texts) (take l.index l.fn.names.texts)
