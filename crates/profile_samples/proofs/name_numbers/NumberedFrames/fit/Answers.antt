-- So many locations of the deepest fit, and so these.
use Rattle.std.proofs.Common.{arith}
use Rattle.std.proofs.lemmas.Bool.{le-leb}
use Rattle.profile_samples.proofs.FrameNumbers.{all_within, within_deepest}
use Rattle.profile_samples.proofs.name_numbers.NumberedFrames.fit.Goals as goal

pub returns-then-saturating_mul-le-MAX_DEPTH : goal.returns-then-saturating_mul-le-MAX_DEPTH
returns-then-saturating_mul-le-MAX_DEPTH c =
    let bound = all_within c.args.self.now c.deepest.result (within_deepest c.args.self.now _ c.deepest.result
    (rw c.self.view_is at c.self.invariant.frames_are) c.deepest.ensures) c.args.ids.now in
    let product = c.saturating_mul.ensures in
    let low = c.if-saturating_mul-le-MAX_DEPTH.true in
    ((λ h. omega (arith, bound, product, low)), (λ h. le-leb c.saturating_mul.result 65535 low))
