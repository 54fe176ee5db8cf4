use Rattle.std.proofs.Common.{length, take}
use Rattle.profile_samples.proofs.FrameNumbers.{IsOnceSoFar}
use Rattle.profile_samples.proofs.frame_lists.each_once.Given as goal

-- the numbers so far, each once, are those that are marked
abbrev pub invariant-loop-number : goal.invariant-loop-number
invariant-loop-number l =
    IsOnceSoFar (take l.number-index l.numbers) (length l.initial.marks.items) l.mark l.marks.items l.once.items
