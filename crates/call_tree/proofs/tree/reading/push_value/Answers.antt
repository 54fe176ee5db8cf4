use Rattle.call_tree.proofs.Several.{IsPushing-step}
use Rattle.call_tree.proofs.tree.reading.push_value.Goals as goal

pub loop-row-preserved : goal.loop-row-preserved
loop-row-preserved c =
    IsPushing-step c.args.batch.now c.loop-row.batch c.push.new.self c.args.value c.args.rows
    c.loop-row.row-iterator.rest.items c.next.new.self.rest.items c.in-Some.row c.weighing-weights.result
    c.loop-row.invariant c.in-Some.ensures.steps.0 c.weighing-weights.ensures.here c.weighing-weights.ensures.others
    c.in_default.ensures.pushed
