-- The numbers of all lines.
use Rattle.std.proofs.lemmas.Grind.{common_steps}
use Rattle.std.proofs.Common.{arith}
use Rattle.std.proofs.lemmas.List.{take_all}
use Rattle.profile_samples.proofs.FrameNumbers.{line_numbered, numbers_of_lines}
use Rattle.profile_samples.proofs.function_numbers.FunctionNumbers.numbers_of.Goals as goal

pub loop-line-preserved : goal.loop-line-preserved
loop-line-preserved c = grind (arith, common_steps, line_numbered)

pub returns : goal.returns
returns c = grind (arith, common_steps, take_all, numbers_of_lines)
