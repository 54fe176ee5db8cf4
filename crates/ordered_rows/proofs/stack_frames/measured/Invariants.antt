use Rattle.std.proofs.Common.{◌≡◌, ◌+◌, length, sum_by}
use Rattle.ordered_rows.specs.StackFrames.{frames_of}
use Rattle.ordered_rows.proofs.stack_frames.measured.Given as goal

-- the frames so far are counted, and their bytes
abbrev pub invariant-loop-frame : goal.invariant-loop-frame
invariant-loop-frame l = (l.depth + length l.rest ≡ length (frames_of l.text))
    × (l.bytes + sum_by length l.rest ≡ sum_by length (frames_of l.text))

abbrev pub decreases-loop-frame : goal.decreases-loop-frame
decreases-loop-frame l = length l.rest
