-- The rows of a group stand together: a row after one of it is of it where it shares enough.
use Rattle.std.proofs.lemmas.Grind.{common_steps}
use Rattle.std.proofs.Common.{◌≡◌, ◌+◌, ◌-◌, [], sym, arith, ◌∙◌}
use Rattle.std.proofs.lemmas.List.{take_all, length-take-le}
use Rattle.profile_rows.specs.declared.weighted_stacks.WeightedStack.{WeightedStack}
use Rattle.call_tree.specs.State.{stack_at}
use Rattle.flame_report.proofs.PathOrder as order
use Rattle.flame_report.proofs.RowSums.{group_first, group_next, group_whole, weight_where-more, weight_where-take-le}
use Rattle.flame_report.proofs.layout.Plan.group_weight.Goals as goal

pub loop-next-init : goal.loop-next-init
loop-next-init c =
    let none : WeightedStack = record { stack = []; weight = 0 } in
    let own = order.take_begins_with c.args.depth (stack_at c.args.self.now.rows.now c.args.at) in
    let same : c.args.at + 1 - 1 ≡ c.args.at = omega arith in
    record {
      so_far = c.weight-weight.ensures ∙ sym (group_first _ _ c.args.at none c.requires.at own c.requires.first);
      last = rw same own;
    }

pub returns-then-shape-depth : goal.returns-then-shape-depth
returns-then-shape-depth c = grind (arith, length-take-le, group_whole)

pub overflow_add-weight : goal.overflow_add-weight
overflow_add-weight c = grind (arith, common_steps, length-take-le, weight_where-more, weight_where-take-le, group_next)

pub loop-next-preserved : goal.loop-next-preserved
loop-next-preserved c = grind (arith, length-take-le, weight_where-more, group_next)

pub returns : goal.returns
returns c = grind (arith, common_steps, take_all)
