-- One row of one value in the tree of a grower, in place.
use Rattle.std.proofs.lemmas.Grind.{common_steps}
use Rattle.std.proofs.Common.{rules, arith}
use Rattle.std.proofs.lemmas.Result.{err_from_is_err_and}
use Rattle.call_tree.proofs.Growing.{HasSameWeights-grown, weights-credited, weights-grown}
use Rattle.call_tree.proofs.Planned.{IsIndex-credited}
use Rattle.call_tree.proofs.Totals.{total_in-weights_of}
use Rattle.call_tree.proofs.grower.Grower.add_row.Goals as goal

pub add_row-requires-clause-fits : goal.add_row-requires-clause-fits
add_row-requires-clause-fits c = grind (arith, common_steps, weights-grown, total_in-weights_of)

pub returns-in_err-slot : goal.returns-in_err-slot
returns-in_err-slot c = grind (arith, common_steps, err_from_is_err_and, HasSameWeights-grown)

pub returns-in_err-make_mut : goal.returns-in_err-make_mut
returns-in_err-make_mut c = grind (arith, common_steps, err_from_is_err_and, HasSameWeights-grown)

pub returns-in_err-add_row : goal.returns-in_err-add_row
returns-in_err-add_row c = grind (arith, common_steps, err_from_is_err_and, HasSameWeights-grown)

pub invariant_of-self-2 : goal.invariant_of-self-2
invariant_of-self-2 c = grind (arith, IsIndex-credited)

pub returns : goal.returns
returns c =
    record { weights = search (rules, weights-credited, weights-grown); width = grind (arith, common_steps) }
