use Rattle.std.proofs.Common.{◌≡◌, take}
use Rattle.profile_samples.specs.Export.{pairs_of, unit_texts}
use Rattle.name_counts.specs.TextTables.{with_texts}
use Rattle.profile_samples.proofs.exporting.add_units.Given as goal

-- the table with the kinds and units so far
abbrev pub invariant-loop-unit : goal.invariant-loop-unit
invariant-loop-unit l =
    l.table.texts ≡ with_texts l.initial.table.texts (unit_texts (pairs_of (take l.unit-index l.units)))
