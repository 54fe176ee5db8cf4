-- Fronts that differ decide.
use Rattle.std.proofs.lemmas.Grind.{common_steps}
use Rattle.std.proofs.Common.{arith}
use Rattle.ordered_rows.proofs.Fronts.{fronts_decide, past_fronts, same_front}
use Rattle.ordered_rows.proofs.text_row.TextRow.cmp_text.Goals as goal

pub returns-then-is_ne : goal.returns-then-is_ne
returns-then-is_ne c = grind (arith, common_steps, fronts_decide)

pub returns : goal.returns
returns c = grind (arith, common_steps, past_fronts, same_front)
