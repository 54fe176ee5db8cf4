use Rattle.std.proofs.Common.{◌≡◌, length}
use Rattle.ordered_rows.specs.StackFrames.{frames_of}
use Rattle.ordered_rows.proofs.stack_frames.TextFramesFrameSource.next_frame.Given as goal

-- what was passed over has no frame
abbrev pub invariant-loop-self : goal.invariant-loop-self
invariant-loop-self l = frames_of l.self-inside.rest.now ≡ l.fn.self

abbrev pub decreases-loop-self : goal.decreases-loop-self
decreases-loop-self l = length l.self-inside.rest.now
