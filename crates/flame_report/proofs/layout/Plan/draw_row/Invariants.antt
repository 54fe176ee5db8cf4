use Rattle.std.proofs.Common.{◌≡◌, ◌+◌, ◌≤◌, ◌++◌, All, drop, length, map}
use Rattle.profile_rows.specs.Names.{IsName}
use Rattle.profile_rows.specs.Paths.{prefixes}
use Rattle.flame_report.specs.Answers.{rect_of}
use Rattle.call_tree.specs.State.{stack_at}
use Rattle.flame_report.specs.Sharing.{known_at, shown_of}
use Rattle.flame_report.proofs.layout.Plan.draw_row.Given as goal

-- what is drawn and what is left are together what was drawn before and the row's new paths
abbrev pub invariant-loop-depth : goal.invariant-loop-depth
invariant-loop-depth l = record {
  inside : l.depth ≤ length (stack_at l.self.rows.now l.at) + 1;
  texts : map (λ frame. frame.now) l.drawing.frames.items ≡ stack_at l.self.rows.now l.at;
  names : All IsName (stack_at l.self.rows.now l.at);
  rest : l.drawing.rects.items ++ map rect_of
      (shown_of l.self.columns l.self.rows.now (drop l.depth (prefixes (stack_at l.self.rows.now l.at))))
      ≡ l.initial.drawing.rects.items ++ map rect_of
      (shown_of l.self.columns l.self.rows.now
      (drop (known_at l.self.rows.now l.at) (prefixes (stack_at l.self.rows.now l.at))));
}
