use Rattle.std.proofs.Common.{◌≡◌, take}
use Rattle.collect_sources.specs.Lines.{line_ends}
use Rattle.collect_sources.proofs.text.count_few.Given as goal

-- the ends among the bytes so far
abbrev pub invariant-loop-byte : goal.invariant-loop-byte
invariant-loop-byte l = l.ends ≡ line_ends (take l.byte-index l.few)
