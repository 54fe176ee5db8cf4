use Rattle.std.proofs.Common.{◌≡◌, false, take}
use Rattle.std.specs.List.{list_any}
use Rattle.profile_samples.specs.NameNumbers.{lacks_name}
use Rattle.profile_samples.proofs.function_numbers.FunctionNumbers.needs_address.Given as goal

-- no line so far lacks a name
abbrev pub invariant-loop-line : goal.invariant-loop-line
invariant-loop-line l = list_any (lacks_name l.fn.self) (take l.line-index l.lines) ≡ false
