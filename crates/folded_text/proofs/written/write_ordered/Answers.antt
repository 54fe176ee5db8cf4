-- One row more; and rows in order are the rows of their aggregate.
use Rattle.std.proofs.lemmas.Grind.{common_steps}
use Rattle.std.proofs.Common.{arith}
use Rattle.profile_rows.proofs.InOrder.{rows_of-aggregate}
use Rattle.folded_text.proofs.Writing.{rows_text_more}
use Rattle.folded_text.proofs.written.write_ordered.Goals as goal

pub loop-at-preserved : goal.loop-at-preserved
loop-at-preserved c = grind (arith, common_steps, rows_text_more)

pub returns-clause-lines : goal.returns-clause-lines
returns-clause-lines c = grind (arith, common_steps)

pub returns-clause-report : goal.returns-clause-report
returns-clause-report c = grind (arith, common_steps, rows_of-aggregate)
