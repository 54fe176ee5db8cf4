use Rattle.std.proofs.lemmas.Grind.{common_steps}
use Rattle.std.proofs.Common.{arith, ap, ◌∙◌}
use Rattle.profile_rows.specs.Aggregate.{AreRowsOf, aggregates_of}
use Rattle.profile_rows.specs.Values.{BatchState}
use Rattle.call_tree.specs.State.{weights_of}
use Rattle.call_tree.proofs.Indexing.{if_ok_more}
use Rattle.call_tree.proofs.Several.{ArePushed-all, ArePushed-step}
use Rattle.call_tree.proofs.tree.CallTree.rows.Goals as goal

pub loop-value-preserved : goal.loop-value-preserved
loop-value-preserved c = grind (arith, common_steps, ArePushed-step)

pub returns-clause-rows : goal.returns-clause-rows
returns-clause-rows c =
    let now = c.args.self.now in
    let width = c.width-width.ensures ∙ ap (λ t. t.width) c.self.view_is in
    if_ok_more c.aggregate.result (λ (rows : BatchState). AreRowsOf (aggregates_of c.loop-value.batch.rows) rows.rows)
    (λ (rows : BatchState). AreRowsOf (weights_of now) rows.rows)
    (λ rows are. ArePushed-all now c.loop-value.batch c.loop-value.value rows.rows c.facts.ensures
    (omega (arith, c.loop-value-test.false, c.loop-value.auto.value-end, c.get-value-end.ensures.count, width))
    c.loop-value.invariant are)
    c.aggregate.ensures.rows
