use Rattle.std.proofs.Common.{◌≡◌, take}
use Rattle.profile_samples.proofs.exporting.copies_of.Given as goal

-- the copies so far
abbrev pub invariant-loop-text : goal.invariant-loop-text
invariant-loop-text l = l.copies.items ≡ take l.text-index l.fn.texts.texts
