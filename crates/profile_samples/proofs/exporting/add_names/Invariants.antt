use Rattle.std.proofs.Common.{◌≡◌, All, take}
use Rattle.profile_rows.specs.Names.{IsName}
use Rattle.name_counts.specs.TextTables.{with_texts}
use Rattle.profile_samples.proofs.exporting.add_names.Given as goal

-- the names so far are in the table, and can be names
abbrev pub invariant-loop-name : goal.invariant-loop-name
invariant-loop-name l = (l.table.texts ≡ with_texts l.initial.table.texts (take l.name-index l.fn.names))
    × All IsName (take l.name-index l.fn.names)
