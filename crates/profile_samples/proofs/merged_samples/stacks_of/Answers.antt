-- The next list is a row more, where it weighs something.
use Rattle.std.proofs.lemmas.Grind.{common_steps}
use Rattle.std.proofs.Common.{◌≡◌, ◌<◌, ◌+◌, ◌^◌, ◌++◌, ◌∷◌, [], arith, refl, take}
use Rattle.profile_rows.specs.Rows.{total_of}
use Rattle.profile_rows.proofs.MergedRows.{AddsRow-push, AreMergedSoFar-row}
use Rattle.profile_samples.specs.LocationSums.{LocationSum, row_of_sum, rows_of_sums}
use Rattle.profile_samples.proofs.LocationSums.{follows, merged-none, rows-more}
use Rattle.profile_samples.proofs.merged_samples.stacks_of.Goals as goal
use Rattle.profile_samples.proofs.merged_samples.stacks_of.Goals.{then-weight-gt0+in_ok-stack+in_ok-map_err}
use Rattle.profile_samples.proofs.merged_samples.stacks_of.Goals.{else-weight-gt0}

pub loop-number-preserved : goal.loop-number-preserved
loop-number-preserved c =
    let draft = c.args.frames.now in
    let number = c.loop-number.number in
    let sum : LocationSum = record { ids = c.at-weight.result.0.now; weight = c.at-weight.result.1 } in
    let row = row_of_sum draft sum in
    let before = rows_of_sums draft (take number c.args.sums.now) in
    let stacks = c.loop-number.stacks in
    rw (rows-more draft c.args.sums.now number sum c.at-weight.ensures) (elim c.if-weight-gt0.branch [
      | then-weight-gt0+in_ok-stack+in_ok-map_err w ↦
          let limit = follows draft c.args.sums.now number sum c.at-weight.ensures c.len-number-end.ensures.fits in
          let total = c.loop-number.invariant.total in
          let fits : total_of stacks + row.weight < 2 ^ 63 = omega (arith, limit, total) in
          let pushed : c.if-weight-gt0.stacks ≡ stacks ++ row ∷ [] =
          grind (arith, common_steps) in
          AreMergedSoFar-row before (before ++ row ∷ []) stacks c.if-weight-gt0.stacks row c.loop-number.invariant
          (AddsRow-push stacks c.if-weight-gt0.stacks row pushed fits) refl
      | else-weight-gt0 w ↦
          let nothing = w.if-weight-gt0.false in
          rw w.stacks-is (merged-none before stacks row (omega (arith, nothing)) c.loop-number.invariant)
    ])
