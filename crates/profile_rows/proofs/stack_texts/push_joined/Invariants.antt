use Rattle.std.proofs.Common.{◌≡◌, ◌++◌, All, map, take, string_bytes}
use Rattle.std.specs.List.{join_with_byte}
use Rattle.profile_rows.specs.Names.{IsName}
use Rattle.profile_rows.proofs.stack_texts.push_joined.Given as goal

-- the names so far
abbrev pub invariant-loop-index : goal.invariant-loop-index
invariant-loop-index g l = record {
  joined : string_bytes l.text
      ≡ string_bytes l.initial.text ++ join_with_byte 59 (take l.index (map g.N.AsName.name l.names));
  named : All IsName (take l.index (map g.N.AsName.name l.names));
}
