use Rattle.std.proofs.Common.{◌≡◌, map, take}
use Rattle.profile_samples.proofs.FrameNumbers.{line_number}
use Rattle.profile_samples.proofs.function_numbers.FunctionNumbers.numbers_of.Given as goal

-- the numbers so far
abbrev pub invariant-loop-line : goal.invariant-loop-line
invariant-loop-line l = l.numbers.items ≡ map (line_number l.fn.self l.fn.location.address) (take l.line-index l.lines)
