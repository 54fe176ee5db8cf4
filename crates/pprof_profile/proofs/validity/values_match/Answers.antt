use Rattle.std.proofs.lemmas.Grind.{common_steps}
use Rattle.std.proofs.Common.{arith}
use Rattle.std.proofs.lemmas.Bool.{eq-eqb, ne_eqb}
use Rattle.pprof_profile.proofs.Places.{all_at, not_all_at}
use Rattle.pprof_profile.proofs.validity.values_match.Goals as goal

pub returns-then-values-count : goal.returns-then-values-count
returns-then-values-count c = grind (arith, common_steps, ne_eqb, not_all_at)

pub loop-index-preserved : goal.loop-index-preserved
loop-index-preserved c = grind (arith, common_steps, eq-eqb, all_at)
