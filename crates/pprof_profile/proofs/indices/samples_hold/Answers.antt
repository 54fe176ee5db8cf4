use Rattle.std.proofs.lemmas.Grind.{common_steps}
use Rattle.std.proofs.Common.{arith}
use Rattle.pprof_profile.proofs.Places.{all_at, not_all_at}
use Rattle.pprof_profile.proofs.indices.samples_hold.Goals as goal

pub returns-then-not-labels_hold : goal.returns-then-not-labels_hold
returns-then-not-labels_hold c = grind (arith, common_steps, not_all_at)

pub loop-index-preserved : goal.loop-index-preserved
loop-index-preserved c = grind (arith, common_steps, all_at)
