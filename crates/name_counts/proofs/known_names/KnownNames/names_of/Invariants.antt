use Rattle.std.proofs.Common.{◌≡◌, map, take}
use Rattle.name_counts.proofs.known_names.KnownNames.names_of.Given as goal

-- the names so far are the frames' texts
abbrev pub invariant-loop-frame : goal.invariant-loop-frame
invariant-loop-frame l = l.names.items ≡ take l.frame-index (map (λ frame. frame.now) l.frames)
