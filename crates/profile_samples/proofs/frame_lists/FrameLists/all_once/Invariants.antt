use Rattle.std.proofs.Common.{◌≡◌, ◌≤◌, All, length, map, take}
use Rattle.profile_samples.specs.NameNumbers.{once_of}
use Rattle.profile_samples.proofs.frame_lists.FrameLists.all_once.Given as goal

-- the lists so far
abbrev pub invariant-loop-at : goal.invariant-loop-at
invariant-loop-at l = (l.lists ≡ map once_of (take l.at l.fn.self))
    × (length l.marks.items ≡ length l.initial.marks.items) × All (λ mark. mark ≤ l.at) l.marks.items
