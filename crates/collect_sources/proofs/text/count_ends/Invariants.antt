use Rattle.std.proofs.Common.{◌≡◌, ◌+◌, length}
use Rattle.collect_sources.specs.Lines.{line_ends}
use Rattle.collect_sources.proofs.text.count_ends.Given as goal

abbrev pub decreases-loop-rest : goal.decreases-loop-rest
decreases-loop-rest l = length l.rest

-- the ends so far, and those of what is left
abbrev pub invariant-loop-rest : goal.invariant-loop-rest
invariant-loop-rest l = l.ends + line_ends l.rest ≡ line_ends l.text
