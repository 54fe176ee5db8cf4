use Rattle.std.proofs.Common.{◌≡◌, ◌≤◌, ◌++◌, length, take}
use Rattle.name_counts.specs.TextTables.{with_texts}
use Rattle.name_counts.proofs.numbered_row.NumberedRow.replace.Given as goal

-- the frames so far stand in the row, and their names have numbers
abbrev pub invariant-loop-frame : goal.invariant-loop-frame
invariant-loop-frame g l = record {
  inside : l.depth ≤ length l.self.frames;
  names : l.self.texts ≡ with_texts l.initial.self.texts (take l.depth l.self.frames);
  frames : take l.depth l.self.frames ++ g.F.FrameSource.left l.frames ≡ g.F.FrameSource.left l.initial.frames;
}

abbrev pub decreases-loop-frame : goal.decreases-loop-frame
decreases-loop-frame g l = length (g.F.FrameSource.left l.frames)
