-- A sample that is too deep, and one that is too heavy.
use Rattle.std.proofs.Common.{arith}
use Rattle.profile_samples.proofs.SampleRows.{fits_in, one_value_deep, one_value_heavy}
use Rattle.profile_samples.proofs.sampling.sample_weight.Goals as goal

pub returns-then-not-fit : goal.returns-then-not-fit
returns-then-not-fit c =
    one_value_deep c.args.frames.now c.args.chosen c.args.earlier c.args.number c.args.sample.now c.in_ok-weight.weight
    c.fit.result (rw c.values.ensures at c.in_ok-weight.ensures.0) (rw c.location_ids.ensures at c.fit.ensures)
    c.if-not-fit.true

pub returns-then-weight-earlier : goal.returns-then-weight-earlier
returns-then-weight-earlier c =
    let passed = c.if-weight-earlier.true in
    one_value_heavy c.args.frames.now c.args.chosen c.args.earlier c.args.number c.args.sample.now
    c.in_ok-weight.weight (rw c.values.ensures at c.in_ok-weight.ensures.0)
    (fits_in c.args.frames.now c.args.sample.now.location_ids c.fit.result
    (rw c.location_ids.ensures at c.fit.ensures) c.if-not-fit.false) (omega (arith, passed))
