use Rattle.std.proofs.Common.{◌≡◌, take}
use Rattle.name_counts.specs.TextTables.{names_at}
use Rattle.profile_samples.proofs.name_numbers.NumberedFrames.leaf_first.Given as goal

-- the names so far
abbrev pub invariant-loop-number : goal.invariant-loop-number
invariant-loop-number l = l.shares.items ≡ names_at l.names (take l.number-index l.number-items)
