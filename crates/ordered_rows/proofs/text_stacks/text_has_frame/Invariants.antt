use Rattle.std.proofs.Common.{◌≡◌, length}
use Rattle.profile_rows.specs.Rows.{has_name}
use Rattle.ordered_rows.specs.StackFrames.{frames_of}
use Rattle.ordered_rows.proofs.text_stacks.text_has_frame.Given as goal

-- no frame so far has the name
abbrev pub invariant-loop-frame : goal.invariant-loop-frame
invariant-loop-frame l = has_name l.name l.frames ≡ has_name l.name (frames_of l.text)

abbrev pub decreases-loop-frame : goal.decreases-loop-frame
decreases-loop-frame l = length l.frames
