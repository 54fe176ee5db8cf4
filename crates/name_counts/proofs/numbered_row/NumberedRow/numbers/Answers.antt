-- Each number is that of its text.
use Rattle.std.proofs.lemmas.Grind.{common_steps}
use Rattle.std.proofs.Common.{arith}
use Rattle.name_counts.proofs.NumberedRows.{are_own}
use Rattle.name_counts.proofs.numbered_row.NumberedRow.numbers.Goals as goal

pub returns-clause-numbers : goal.returns-clause-numbers
returns-clause-numbers c = grind (arith, common_steps, are_own)
