-- The rows of a tree are those of its aggregate, and have the answer of all rows that add up to it.
use Rattle.std.proofs.lemmas.Grind.{common_steps}
use Rattle.std.proofs.Common.{arith}
use Rattle.call_tree.specs.State.{weights_of}
use Rattle.flame_report.proofs.Same.{answer_of-rows_of, if_ok_seen}
use Rattle.flame_report.proofs.reports.report.Goals as goal

pub returns-in-Total : goal.returns-in-Total
returns-in-Total c = λ rows same. grind (arith, common_steps, answer_of-rows_of)

pub returns-in_ok-top-in-Top : goal.returns-in_ok-top-in-Top
returns-in_ok-top-in-Top c = grind (arith, answer_of-rows_of)

pub of_texts-requires : goal.of_texts-requires
of_texts-requires c =
    (weights_of c.args.tree.now c.args.query.now.value, rw c.as_slice.ensures.value c.in_ok-texts-in_default.ensures)

pub returns-in_ok-rows-in_default : goal.returns-in_ok-rows-in_default
returns-in_ok-rows-in_default c = λ rows same.
    let weights = weights_of c.args.tree.now c.args.query.now.value in
    let ordered = c.in_ok-rows-in_default.ensures weights
    (rw c.as_slice.ensures.value c.in_ok-texts-in_default.ensures) in
    grind (arith, common_steps, ordered, answer_of-rows_of, if_ok_seen)
