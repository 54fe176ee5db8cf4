use Rattle.std.proofs.Common.{◌≡◌, take}
use Rattle.name_counts.specs.TextTables.{with_texts}
use Rattle.profile_samples.proofs.exporting.add_strings.Given as goal

-- the strings with the names so far
abbrev pub invariant-loop-name : goal.invariant-loop-name
invariant-loop-name l = l.table.texts ≡ with_texts l.initial.table.texts (take l.name-index l.fn.names.texts)
