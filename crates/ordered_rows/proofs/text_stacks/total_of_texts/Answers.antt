-- The rows so far and the next are within the limit of all.
use Rattle.std.proofs.lemmas.Grind.{common_steps}
use Rattle.std.proofs.Common.{arith}
use Rattle.ordered_rows.proofs.SpelledRows.{follows}
use Rattle.ordered_rows.proofs.text_stacks.total_of_texts.Goals as goal

pub overflow_add-total : goal.overflow_add-total
overflow_add-total c = grind (arith, common_steps, follows)
