use Rattle.std.proofs.Common.{◌≡◌, ◌-◌, take, true}
use Rattle.profile_rows.specs.Paths.{begins_with}
use Rattle.profile_rows.specs.Names.{name_cmp}
use Rattle.profile_rows.specs.Rows.{weight_where}
use Rattle.call_tree.specs.State.{stack_at}
use Rattle.flame_report.proofs.layout.Plan.group_weight.Given as goal

abbrev pub invariant-loop-next : goal.invariant-loop-next
invariant-loop-next l = record {
  so_far : l.weight
      ≡ weight_where (begins_with name_cmp (take l.depth (stack_at l.self.rows.now l.at)))
      (take l.next l.self.rows.now);
  last : begins_with name_cmp (take l.depth (stack_at l.self.rows.now l.at)) (stack_at l.self.rows.now (l.next - 1))
      ≡ true;
}
