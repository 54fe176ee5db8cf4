use Rattle.std.proofs.Common.{◌≡◌, map, take}
use Rattle.profile_samples.proofs.counted_samples.texts_of.Given as goal

-- the texts so far
abbrev pub invariant-loop-name : goal.invariant-loop-name
invariant-loop-name l = map (λ text. text.now) l.texts.items ≡ take l.name-index l.names
