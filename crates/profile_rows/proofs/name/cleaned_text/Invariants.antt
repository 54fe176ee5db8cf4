use Rattle.std.proofs.Common.{◌≡◌, map, take}
use Rattle.profile_rows.specs.Names.{cleaned_byte}
use Rattle.profile_rows.proofs.name.cleaned_text.Given as goal

-- the bytes so far
abbrev pub invariant-loop-byte : goal.invariant-loop-byte
invariant-loop-byte l = l.bytes.items ≡ map cleaned_byte (take l.byte-index l.byte-items)
