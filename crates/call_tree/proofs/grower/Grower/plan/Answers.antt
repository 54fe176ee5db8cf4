use Rattle.std.proofs.lemmas.Grind.{common_steps}
use Rattle.std.proofs.Common.{arith}
use Rattle.call_tree.proofs.Growing.{HasSameWeights-grown}
use Rattle.call_tree.proofs.Totals.{total_in-weights_of}
use Rattle.call_tree.proofs.grower.Grower.plan.Goals as goal

pub plan_rows-planned-requires-clause-fits : goal.plan_rows-planned-requires-clause-fits
plan_rows-planned-requires-clause-fits c = grind (arith, common_steps, total_in-weights_of)

pub returns-clause-planned : goal.returns-clause-planned
returns-clause-planned c = grind (arith, common_steps)

pub returns-clause-same : goal.returns-clause-same
returns-clause-same c = grind (arith, common_steps, HasSameWeights-grown)
