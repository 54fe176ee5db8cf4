use Rattle.std.proofs.Common.{◌≡◌, ◌++◌, take}
use Rattle.profile_samples.proofs.unfolding.push_numbers.Given as goal

-- the numbers so far are added
abbrev pub invariant-loop-number : goal.invariant-loop-number
invariant-loop-number l = l.numbers.items ≡ l.initial.numbers.items ++ take l.number-index l.more
