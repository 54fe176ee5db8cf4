use Rattle.std.proofs.Common.{ℕ, ◌≡◌, ◌<◌, ◌-◌, length, map, slice_index_or}
use Rattle.call_tree.specs.State.{stack_at}
use Rattle.flame_report.specs.Sharing.{shape_of}
use Rattle.flame_report.specs.declared.layout.Shape.{Shape}
use Rattle.flame_report.proofs.layout.shapes_of.Given as goal

-- the shapes of the rows so far, and the frames of the last of them
abbrev pub invariant-loop-at : goal.invariant-loop-at
invariant-loop-at l = record {
  each : length l.shapes.items ≡ l.at;
  of : (k : ℕ) (other : Shape) → k < l.at → slice_index_or l.shapes.items k other ≡ shape_of l.rows k;
  last : 0 < l.at → map (λ frame. frame.now) l.before.items ≡ stack_at l.rows (l.at - 1);
}
