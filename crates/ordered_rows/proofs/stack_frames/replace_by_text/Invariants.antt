use Rattle.std.proofs.Common.{◌≡◌, ◌++◌, length, map}
use Rattle.ordered_rows.specs.StackFrames.{frames_of}
use Rattle.ordered_rows.proofs.stack_frames.replace_by_text.Given as goal

-- the frames so far and those that are left
abbrev pub invariant-loop-frame : goal.invariant-loop-frame
invariant-loop-frame l = map (λ frame. frame.now) l.frames.items ++ l.rest ≡ frames_of l.text

abbrev pub decreases-loop-frame : goal.decreases-loop-frame
decreases-loop-frame l = length l.rest
