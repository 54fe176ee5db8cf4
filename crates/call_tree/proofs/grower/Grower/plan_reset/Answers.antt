use Rattle.std.proofs.lemmas.Grind.{common_steps}
use Rattle.std.proofs.Common.{arith}
use Rattle.call_tree.proofs.Growing.{weights-root}
use Rattle.call_tree.proofs.grower.Grower.plan_reset.Goals as goal

pub returns-clause-planned : goal.returns-clause-planned
returns-clause-planned c = grind (arith, common_steps, weights-root)

pub invariant_of-result : goal.invariant_of-result
invariant_of-result c = grind (arith, common_steps)
