-- The numbers of a list of locations are those of its stack.
use Rattle.std.proofs.Common.{arith}
use Rattle.profile_samples.specs.NameNumbers.{frame_names}
use Rattle.profile_samples.specs.Samples.{sample_stack_of}
use Rattle.profile_samples.proofs.SampleNumbers.{sample_numbered}
use Rattle.profile_samples.proofs.counted_samples.count_row.Goals as goal

pub count-requires-clause-fits : goal.count-requires-clause-fits
count-requires-clause-fits c =
    let (rows, so_far, fits) = c.requires in
    let total = so_far.counted.total in
    omega (arith, total, fits)

pub count-requires-clause-counted : goal.count-requires-clause-counted
count-requires-clause-counted c =
    let (rows, so_far, fits) = c.requires in (
      frame_names c.args.frames.now,
      rows,
      sample_stack_of c.args.frames.now c.args.ids.now,
      so_far.counted,
      sample_numbered _ _ _ _ _ c.as_slice.ensures.value so_far.named c.in_ok-gather_numbers.ensures c.leaf_of.ensures,
    )

pub returns : goal.returns
returns c = λ rows so_far. record {
  named = so_far.named;
  counted = c.count.ensures (frame_names c.args.frames.now) rows (sample_stack_of c.args.frames.now c.args.ids.now)
      so_far.counted (sample_numbered _ _ _ _ _ c.as_slice.ensures.value so_far.named
      c.in_ok-gather_numbers.ensures c.leaf_of.ensures);
}
