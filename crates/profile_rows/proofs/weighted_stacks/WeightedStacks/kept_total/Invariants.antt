use Rattle.std.proofs.Common.{◌≡◌, take}
use Rattle.std.specs.Option.{option_copied}
use Rattle.profile_rows.specs.Rows.{kept_rows, total_of}
use Rattle.profile_rows.proofs.weighted_stacks.WeightedStacks.kept_total.Given as goal

-- the weight of the kept rows so far
abbrev pub invariant-loop-row : goal.invariant-loop-row
invariant-loop-row l =
    l.total ≡ total_of (kept_rows (option_copied l.focus) (option_copied l.ignored) (take l.row-index l.row-items))
