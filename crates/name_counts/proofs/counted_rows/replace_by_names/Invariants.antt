use Rattle.std.proofs.Common.{◌≡◌, map, take, All}
use Rattle.profile_rows.specs.Names.{IsName}
use Rattle.name_counts.proofs.counted_rows.replace_by_names.Given as goal

-- the texts so far, of names
abbrev pub invariant-loop-name : goal.invariant-loop-name
invariant-loop-name l = record {
  texts : map (λ frame. frame.now) l.frames.items ≡ take l.name-index l.names;
  names : All IsName (take l.name-index l.names);
}
