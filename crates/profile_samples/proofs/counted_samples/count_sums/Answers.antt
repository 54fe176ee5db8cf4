-- The next list is a row more, within the limit of all.
use Rattle.std.proofs.Common.{take}
use Rattle.profile_samples.specs.LocationSums.{rows_of_sums}
use Rattle.profile_samples.proofs.LocationSums.{follows, rows-more}
use Rattle.profile_samples.proofs.counted_samples.count_sums.Goals as goal

pub count_row-requires : goal.count_row-requires
count_row-requires c = (
  rows_of_sums c.args.frames.now (take c.loop-index.index c.args.sums.now),
  c.loop-index.invariant,
  follows c.args.frames.now c.args.sums.now c.loop-index.index _ c.at-weight.ensures c.len-index-end.ensures.fits,
)

pub loop-index-preserved : goal.loop-index-preserved
loop-index-preserved c =
    rw (rows-more c.args.frames.now c.args.sums.now c.loop-index.index _ c.at-weight.ensures)
    (c.in_ok-count_row.ensures (rows_of_sums c.args.frames.now (take c.loop-index.index c.args.sums.now))
    c.loop-index.invariant)
