use Rattle.collect_sources.proofs.Counting.{IsLineStart}
use Rattle.collect_sources.proofs.text.line_start.Given as goal

-- a line begins where the search has come to, after so many others
abbrev pub invariant-loop : goal.invariant-loop
invariant-loop l = IsLineStart l.text l.counter l.start
