-- The numbers of the next location are added.
use Rattle.std.proofs.Common.{◌∙◌, Some, None, ap, get_or, take}
use Rattle.std.specs.declared.vec.Vec.{Vec}
use Rattle.profile_samples.specs.CountedSamples.{AreNumbersOfIds}
use Rattle.profile_samples.proofs.FrameNumbers.{found_names}
use Rattle.profile_samples.proofs.SampleNumbers.{numbers_missing, numbers_more}
use Rattle.profile_samples.proofs.counted_samples.gather_numbers.Goals as goal
use Rattle.profile_samples.proofs.counted_samples.gather_numbers.Goals.{in-Some+in_ok-push_numbers, in_default}

pub loop-id-preserved : goal.loop-id-preserved
loop-id-preserved c =
    let draft = c.args.frames.now in
    let ids = c.args.ids.now in
    let at = c.loop-id.id-index in
    let before = c.loop-id.numbers.items in
    let so_far : AreNumbersOfIds draft (take at ids) before =
    record { inside = c.loop-id.invariant.inside; same = c.loop-id.invariant.same } in
    elim c.match-names_of.branch [
      | in-Some+in_ok-push_numbers w ↦
          let found = found_names draft (get_or ids at 0) (Some w.in-Some.names.now) w.in-Some.ensures in
          numbers_more draft ids at found.0
          before w.in-Some.names.now c.match-names_of.numbers.items c.loop-id-test.true found.1 found.2 so_far
          (ap (λ (v : Vec _ _). v.items) w.numbers-is ∙ w.in_ok-push_numbers.ensures)
      | in_default w ↦ numbers_missing draft ids at before c.match-names_of.numbers.items c.loop-id-test.true
          (found_names draft (get_or ids at 0) None w.in_default.ensures) so_far
          (ap (λ (v : Vec _ _). v.items) w.numbers-is)
    ]
