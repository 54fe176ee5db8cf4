use Rattle.std.proofs.Common.{drop}
use Rattle.profile_samples.specs.NameNumbers.{string_names_from}
use Rattle.profile_samples.proofs.FrameNumbers.{AreNamedSoFar}
use Rattle.profile_samples.proofs.string_names.string_numbers.Given as goal

-- the names so far, and their numbers
abbrev pub invariant-loop-at : goal.invariant-loop-at
invariant-loop-at l = AreNamedSoFar l.fn.draft l.names.keys l.numbers.items
    (string_names_from l.fn.draft.functions l.at (drop l.at l.strings))
