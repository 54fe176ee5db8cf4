-- One row of one value, at its node.
use Rattle.std.proofs.lemmas.Grind.{common_steps}
use Rattle.std.proofs.Common.{rules, arith}
use Rattle.call_tree.proofs.Adding.{AreCredited-row, row_within}
use Rattle.call_tree.proofs.Totals.{HasTotal-credited}
use Rattle.call_tree.proofs.tree.CallTree.add_row.Goals as goal

pub add_weight-requires-clause-within : goal.add_weight-requires-clause-within
add_weight-requires-clause-within c = search (rules, row_within)

pub invariant_of-self-2 : goal.invariant_of-self-2
invariant_of-self-2 c = grind (arith, common_steps, AreCredited-row, HasTotal-credited)

pub returns : goal.returns
returns c = grind (arith, common_steps, AreCredited-row)
