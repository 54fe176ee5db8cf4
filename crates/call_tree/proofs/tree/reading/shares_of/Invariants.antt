use Rattle.std.proofs.Common.{◌≡◌, map, take}
use Rattle.call_tree.proofs.tree.reading.shares_of.Given as goal

-- the names so far
abbrev pub invariant-loop-name : goal.invariant-loop-name
invariant-loop-name l = l.shares.items ≡ map (λ name. name.now) (take l.name-index l.names)
