use Rattle.std.proofs.Common.{◌≡◌, ◌∷◌, ◌++◌, [], take, codes, string_bytes}
use Rattle.std.specs.List.{flat_map}
use Rattle.std.specs.Fmt.{decimal}
use Rattle.profile_rows.specs.TopList.{top_line}
use Rattle.flame_report.proofs.top.top_text.Given as goal

-- the total's line, and the lines of the names so far
abbrev pub invariant-loop-row : goal.invariant-loop-row
invariant-loop-row l = string_bytes l.text
    ≡ (codes "total " ++ decimal l.top.total ++ 10 ∷ []) ++ flat_map top_line (take l.row-index l.row-items)
