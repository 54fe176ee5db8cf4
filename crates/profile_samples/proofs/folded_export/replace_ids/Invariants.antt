use Rattle.std.proofs.Common.{◌≡◌, ◌+◌, map, take}
use Rattle.profile_samples.proofs.folded_export.replace_ids.Given as goal

-- the ids are those of the numbers so far
abbrev pub invariant-loop-number : goal.invariant-loop-number
invariant-loop-number l = l.ids.items ≡ map (λ number. number + 1) (take l.number-index l.numbers)
