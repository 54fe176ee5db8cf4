-- A row more waits, or is counted.
use Rattle.std.proofs.Common.{◌++◌, ◌∷◌, [], arith, refl}
use Rattle.profile_rows.proofs.MergedRows.{AddsRow-push, AreMergedSoFar-row}
use Rattle.ordered_rows.specs.SpelledRows.{spelled_rows}
use Rattle.std.proofs.lemmas.Grind.{common_steps}
use Rattle.std.proofs.lemmas.Result.{MatchResult-weaker}
use Rattle.folded_text.proofs.Waiting.{waits}
use Rattle.folded_text.proofs.text_totals.CountingLineTaker.take_line.Goals as goal

pub returns-in_default : goal.returns-in_default
returns-in_default c = λ rows so_far fits.
    let (merged, same, counted) = so_far in
    let before = rw c.in_default.is at counted in
    MatchResult-weaker c.count_line.result c.count_line.ensures
    (λ done taken. let (row, this, within, tallied) = taken merged before in (
      row,
      this,
      rw (← same.total) within,
      (
        merged ++ row ∷ [],
        AreMergedSoFar-row rows _ merged _ row same (AddsRow-push merged _ row refl within) refl,
        rw c.in_default.is tallied,
      ),
    ))
    (λ fault there. grind (arith, common_steps))

pub returns-then-should_wait : goal.returns-then-should_wait
returns-then-should_wait c = λ rows so_far fits.
    let (merged, same, counted) = so_far in
    let (is, none) = rw c.in-Some.is at counted in
    let (row, this, adds) = c.in_ok-sum_line.ensures in
    let sums = spelled_rows c.sum_line.new.self in
    let (within, more) = waits rows merged (spelled_rows c.in-Some.sums) sums row same is adds in
    (row, this, within, (sums, more, (refl, none)))

pub returns : goal.returns
returns c = λ rows so_far fits.
    let (merged, same, counted) = so_far in
    let (is, none) = rw c.in-Some.is at counted in
    let (row, this, adds) = c.in_ok-sum_line.ensures in
    let sums = spelled_rows c.sum_line.new.self in
    let (within, more) = waits rows merged (spelled_rows c.in-Some.sums) sums row same is adds in
    let (done, counted_now) = c.in_ok-count_waiting.ensures sums (refl, none) in
    (row, this, within, (sums, more, rw done counted_now))
