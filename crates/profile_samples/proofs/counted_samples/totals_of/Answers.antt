-- No name has a weight yet.
use Rattle.std.proofs.Common.{◌≡◌, ap, length, sym}
use Rattle.profile_samples.specs.NameNumbers.{frame_names}
use Rattle.profile_samples.proofs.FrameNumbers.{frame_names-single}
use Rattle.profile_samples.proofs.counted_samples.totals_of.Goals as goal

pub count_sums-requires : goal.count_sums-requires
count_sums-requires c =
    let draft = c.args.frames.now in
    let many : length (frame_names draft) ≡ length c.names.result.now = ap length (sym c.names.ensures.names) in
    record {
      none = record {
        named = c.names.ensures.each;
        counted = c.in_ok-tallies.ensures (frame_names draft) (frame_names-single draft) many;
      };
    }
