use Rattle.std.proofs.Common.{◌≡◌, map, take}
use Rattle.profile_samples.specs.Export.{exported_function}
use Rattle.profile_samples.proofs.exporting.functions_of.Given as goal

-- the functions so far
abbrev pub invariant-loop-index : goal.invariant-loop-index
invariant-loop-index l =
    l.functions.items ≡ map (exported_function l.fn.names.texts l.fn.strings.texts) (take l.index l.fn.names.texts)
