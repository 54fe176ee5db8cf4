-- Each frame of a text without a line feed can be a name.
use Rattle.ordered_rows.proofs.FrameNames.{frames_of-IsName}
use Rattle.ordered_rows.proofs.stack_frames.TextFrames.of.Goals as goal

pub returns-clause-names : goal.returns-clause-names
returns-clause-names c = frames_of-IsName c.args.text.now c.utf8.text
