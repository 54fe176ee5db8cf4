use Rattle.std.proofs.lemmas.Grind.{common_steps}
use Rattle.std.proofs.Common.{arith}
use Rattle.ordered_rows.proofs.FrameNames.{frames_of-IsName}
use Rattle.ordered_rows.proofs.stack_frames.replace_by_text.Goals as goal

pub returns : goal.returns
returns c = let names = frames_of-IsName c.args.text.now c.utf8.text c.requires in grind (arith, common_steps, names)
