use Rattle.std.proofs.Common.{◌≡◌, ◌≤◌, All, length, string_bytes, take}
use Rattle.profile_rows.specs.declared.weighted_stacks.WeightedStack.{WeightedStack}
use Rattle.profile_rows.specs.Names.{IsName}
use Rattle.folded_text.specs.FoldedText.{rows_text}
use Rattle.folded_text.proofs.written.write_stacks.Given as goal

-- the lines so far, of rows whose stacks a batch can hold
abbrev pub invariant-loop-row : goal.invariant-loop-row
invariant-loop-row l = (string_bytes l.text ≡ rows_text (take l.row-index l.row-items))
    × All (λ (row : WeightedStack). All IsName row.stack × (length row.stack ≤ 65535)) (take l.row-index l.row-items)
