use Rattle.std.proofs.Common.{◌≡◌, ◌<◌, ◌^◌, take}
use Rattle.std.specs.Str.Parse.{digits_value}
use Rattle.folded_text.proofs.folded.weight_from.Given as goal

-- the digits so far write the weight
abbrev pub invariant-loop-byte : goal.invariant-loop-byte
invariant-loop-byte l = (l.weight ≡ digits_value 10 (take l.byte-index l.digits)) × (l.weight < 2 ^ 64)
