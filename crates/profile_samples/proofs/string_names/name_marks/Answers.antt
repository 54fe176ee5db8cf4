-- Both names of the next function are marked.
use Rattle.std.proofs.lemmas.Grind.{common_steps}
use Rattle.std.proofs.Common.{arith}
use Rattle.std.proofs.Math.Bool.{or_assoc}
use Rattle.profile_samples.proofs.string_names.name_marks.Goals as goal

pub loop-function-preserved : goal.loop-function-preserved
loop-function-preserved c = grind (arith, common_steps, or_assoc)
