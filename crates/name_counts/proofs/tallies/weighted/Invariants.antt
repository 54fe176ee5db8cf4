use Rattle.std.proofs.Common.{◌≡◌, map, take}
use Rattle.std.specs.List.{zip}
use Rattle.name_counts.proofs.Weighted.{weighted_in}
use Rattle.name_counts.proofs.tallies.weighted.Given as goal

-- the names so far
abbrev pub invariant-loop-number : goal.invariant-loop-number
invariant-loop-number l =
    l.list.items ≡ weighted_in (take l.number (zip (map (λ name. name.now) l.names) l.tallies.names.items))
