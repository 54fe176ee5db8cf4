-- The rows so far and the next are within the limit of all.
use Rattle.std.proofs.lemmas.Grind.{common_steps}
use Rattle.std.proofs.Common.{arith}
use Rattle.ordered_rows.proofs.SpelledRows.{follows}
use Rattle.folded_text.proofs.text_rows.stacks_of_texts.Goals as goal

pub push_frames-requires-clause-fits : goal.push_frames-requires-clause-fits
push_frames-requires-clause-fits c = grind (arith, common_steps, follows)
