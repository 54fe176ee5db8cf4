-- There are no more frames, and no more bytes in them, than bytes in the text.
use Rattle.std.proofs.lemmas.Grind.{common_steps}
use Rattle.std.proofs.Common.{arith}
use Rattle.std.proofs.lemmas.List.Sums.{sum_by-cons}
use Rattle.ordered_rows.proofs.SpelledRows.{frames-within}
use Rattle.ordered_rows.proofs.stack_frames.measured.Goals as goal

pub overflow_add-depth : goal.overflow_add-depth
overflow_add-depth c = grind (arith, common_steps, frames-within)

pub overflow_add-bytes : goal.overflow_add-bytes
overflow_add-bytes c = grind (arith, common_steps, sum_by-cons, frames-within)
