-- The first location that is there has the leaf.
use Rattle.std.proofs.Common.{Some, ap, sym, ◌∙◌, get_or}
use Rattle.std.specs.Prelude.{reverse}
use Rattle.std.proofs.lemmas.List.{take_all}
use Rattle.profile_samples.specs.Samples.{frames_of_ids}
use Rattle.profile_samples.proofs.FrameNumbers.{found_numbers, leaf_first}
use Rattle.profile_samples.proofs.name_numbers.NumberedFrames.leaf_of.Goals as goal

pub returns-in-Some : goal.returns-in-Some
returns-in-Some c =
    let this = found_numbers c.args.self.now
    (get_or c.args.ids.now c.loop-id.id-index 0) (Some c.in-Some.frames.now) c.in-Some.ensures in
    let stack = leaf_first c.args.self.now
    c.args.ids.now c.loop-id.id-index _ this.callers c.loop-id-test.true c.loop-id.invariant this.leaf in
    (this.leaf_inside, stack.0, stack.1)

pub returns : goal.returns
returns c = ap reverse (ap (frames_of_ids c.args.self.now)
    (sym (take_all c.loop-id.id-index c.args.ids.now c.loop-id-test.false)) ∙ c.loop-id.invariant)
