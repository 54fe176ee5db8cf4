use Rattle.std.proofs.Common.{◌≡◌, take}
use Rattle.name_counts.proofs.lent_totals.keep_totals.Given as goal

-- the names so far
abbrev pub invariant-loop-total : goal.invariant-loop-total
invariant-loop-total l = l.totals.items ≡ take l.total-index l.lent
