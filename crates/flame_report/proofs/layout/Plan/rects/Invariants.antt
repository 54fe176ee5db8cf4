use Rattle.std.proofs.Common.{◌≡◌, map, take}
use Rattle.profile_rows.specs.Rows.{total_of}
use Rattle.flame_report.specs.Answers.{rect_of}
use Rattle.flame_report.specs.Sharing.{AreHeld, shown_of}
use Rattle.flame_report.proofs.NewPaths.{paths_until}
use Rattle.flame_report.proofs.layout.Plan.rects.Given as goal

abbrev pub invariant-loop-at : goal.invariant-loop-at
invariant-loop-at l = record {
  before : l.before ≡ total_of (take l.at l.self.rows.now);
  done : l.drawing.rects.items
      ≡ map rect_of (shown_of l.self.columns l.self.rows.now (paths_until l.self.rows.now l.at));
  held : AreHeld l.held.items l.self.rows.now l.at;
}
