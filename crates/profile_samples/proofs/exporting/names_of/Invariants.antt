use Rattle.std.proofs.Common.{◌≡◌, ◌≤◌, [], All, length, take}
use Rattle.std.specs.List.{flat_map}
use Rattle.profile_rows.specs.declared.weighted_stacks.WeightedStack.{WeightedStack}
use Rattle.profile_rows.specs.Names.{IsName}
use Rattle.name_counts.specs.TextTables.{with_texts}
use Rattle.profile_samples.proofs.exporting.names_of.Given as goal

-- the names of the rows so far, whose stacks a batch can hold
abbrev pub invariant-loop-row : goal.invariant-loop-row
invariant-loop-row l =
    (l.names.texts ≡ with_texts [] (flat_map (λ (row : WeightedStack). row.stack) (take l.row-index l.fn.rows)))
    × All (λ (row : WeightedStack). All IsName row.stack × (length row.stack ≤ 65535)) (take l.row-index l.fn.rows)
