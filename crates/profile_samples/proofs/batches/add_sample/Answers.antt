-- A sample with a value below 0, one that is too deep, one that is too heavy, and `NoMemory` at one that fits.
use Rattle.std.proofs.Common.{refl, sym, ◌∙◌}
use Rattle.std.proofs.lemmas.Result.{err_from_is_err_and}
use Rattle.profile_samples.proofs.SampleRows.{fits_in, IsSampleFault-heavy, IsSampleFault-memory}
use Rattle.profile_samples.proofs.batches.add_sample.Goals as goal

pub returns-in-Some : goal.returns-in-Some
returns-in-Some c =
    let count = sym (c.total-totals.ensures.totals.width ∙ c.requires.width) in
    let deep = fits_in c.args.frames.now c.args.sample.now.location_ids c.fit.result
    (rw c.location_ids-ids.ensures at c.fit.ensures) c.if-not-fit.false in (
      c.total-totals.result,
      c.total-totals.ensures.totals,
      IsSampleFault-heavy c.args.frames.now c.args.chosen.now.first c.total-totals.result c.args.number
          c.args.sample.now c.in_ok-weights.weights _ (c.in_ok-weights.ensures.count ∙ count)
          (rw (c.values.ensures, count) at c.in_ok-weights.ensures.weights) deep
          (refl, _, c.in-Some.ensures.0, c.in-Some.ensures.1.heavy),
    )

pub returns-in_err-stack : goal.returns-in_err-stack
returns-in_err-stack c =
    let p = err_from_is_err_and c.from_residual-in_err-stack.result c.from_residual-in_err-stack.ensures.1 in
    let count = sym (c.total-totals.ensures.totals.width ∙ c.requires.width) in
    let deep = fits_in c.args.frames.now c.args.sample.now.location_ids c.fit.result
    (rw c.location_ids-ids.ensures at c.fit.ensures) c.if-not-fit.false in
    rw (p.1, p.2) (
      c.total-totals.result,
      c.total-totals.ensures.totals,
      IsSampleFault-memory c.args.frames.now c.args.chosen.now.first c.total-totals.result c.args.number
          c.args.sample.now c.in_ok-weights.weights (c.in_ok-weights.ensures.count ∙ count)
          (rw (c.values.ensures, count) at c.in_ok-weights.ensures.weights) deep c.in_default.ensures,
    )

pub returns-in_err-map_err : goal.returns-in_err-map_err
returns-in_err-map_err c =
    let p = err_from_is_err_and c.from_residual-in_err-map_err.result c.from_residual-in_err-map_err.ensures.1 in
    let count = sym (c.total-totals.ensures.totals.width ∙ c.requires.width) in
    let deep = fits_in c.args.frames.now c.args.sample.now.location_ids c.fit.result
    (rw c.location_ids-ids.ensures at c.fit.ensures) c.if-not-fit.false in
    rw (p.1, p.2) (
      c.total-totals.result,
      c.total-totals.ensures.totals,
      IsSampleFault-memory c.args.frames.now c.args.chosen.now.first c.total-totals.result c.args.number
          c.args.sample.now c.in_ok-weights.weights (c.in_ok-weights.ensures.count ∙ count)
          (rw (c.values.ensures, count) at c.in_ok-weights.ensures.weights) deep c.in_default.ensures,
    )
