use Rattle.std.proofs.lemmas.Grind.{common_steps}
use Rattle.std.proofs.Common.{arith}
use Rattle.call_tree.proofs.Totals.{total_in-fits, total_in-weights_of}
use Rattle.call_tree.proofs.tree.CallTree.total.Goals as goal

pub returns-clause-totals : goal.returns-clause-totals
returns-clause-totals c = grind (arith, common_steps, total_in-weights_of)

pub returns-clause-fits : goal.returns-clause-fits
returns-clause-fits c = total_in-fits c.args.self.now c.facts.ensures
