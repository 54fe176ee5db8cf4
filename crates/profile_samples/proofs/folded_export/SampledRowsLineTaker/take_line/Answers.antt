-- The row's sample has the ids of its names, and its weight for its value.
use Rattle.std.proofs.Common.{◌+◌, ap, map, ◌∙◌}
use Rattle.std.specs.Int.{w64}
use Rattle.std.proofs.lemmas.Int.{to_z_pos}
use Rattle.ordered_rows.specs.StackFrames.{frames_of}
use Rattle.profile_samples.specs.Export.{exported_sample}
use Rattle.profile_rows.specs.Values.{singles}
use Rattle.profile_samples.proofs.ExportedRows.{AreSamplesOf-push}
use Rattle.profile_samples.proofs.folded_export.SampledRowsLineTaker.take_line.Goals as goal

pub returns : goal.returns
returns c = λ before so_far within.
    let (are, known) = so_far in
    let stack = frames_of c.in_ok-stack.stack.now in
    let weight = c.in_ok-stack.weight in
    let this = c.in_ok-stack.ensures in
    let (has, stay) = c.in_ok-read_ids.ensures c.args.line.now c.requires.one_line this in
    let samples = map (exported_sample c.args.self.now.row.texts) (singles before) in (
      record { stack = stack; weight = weight },
      has.row.spelled,
      rw (← are.total_rows) has.row.fits,
      (
        AreSamplesOf-push before (record { stack = stack; weight = weight })
            c.args.self.now.row.texts c.read_ids.new.self.row.texts
            c.args.self.now.samples c.push.new.self c.read_ids.new.self.ids.items c.args.self.now.total _ are
            has.names has.ids_are (ap (λ total. total + weight) has.total)
            (rw (to_z_pos w64 weight this.small, c.as_slice.ensures.value)
            at (c.in_ok-push.ensures.pushed samples (has.samples ∙ are.samples_rows)))
            (rw (to_z_pos w64 weight this.small, c.as_slice.ensures.value) at c.in_ok-push.ensures.fits),
        stay,
      ),
    )
