-- The rows that rows of one value add up to have their answer.
use Rattle.std.proofs.lemmas.Grind.{common_steps}
use Rattle.std.proofs.Common.{arith}
use Rattle.flame_report.proofs.Same.{answer_of-rows_of, if_ok_seen}
use Rattle.flame_report.proofs.reports.report_of_stacks.Goals as goal

pub returns : goal.returns
returns c = grind (arith, common_steps, answer_of-rows_of, if_ok_seen)
