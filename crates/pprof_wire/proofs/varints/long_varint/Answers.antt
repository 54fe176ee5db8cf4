use Rattle.std.proofs.lemmas.Grind.{common_steps}
use Rattle.std.proofs.Common.{ℕ, ap, ◌*◌, ◌%◌, ◌^◌, arith, slice_index_or}
use Rattle.pprof_wire.proofs.VarintLaws.{more_spelled, more_read, group-fits, is_long}
use Rattle.pprof_wire.proofs.varints.long_varint.Goals as goal

pub overflow_add-number : goal.overflow_add-number
overflow_add-number c =
    omega (
      arith,
      ap (λ (group : ℕ). group * 2 ^ (7 * c.loop-count.count) % 2 ^ 64) c.from.ensures,
      group-fits c.loop-count.number (slice_index_or c.args.bytes.now c.loop-count.count 0)
          c.loop-count.count c.loop-count-test.true c.loop-count.invariant.below,
    )

pub returns-then-byte-lt128 : goal.returns-then-byte-lt128
returns-then-byte-lt128 c =
    rw c.from.ensures (more_spelled c.args.bytes.now _ _ c.loop-count-test.true
    c.if-count-bytes.false c.loop-count.invariant c.if-byte-lt128.true)

pub loop-count-preserved : goal.loop-count-preserved
loop-count-preserved c =
    rw c.from.ensures (more_read c.args.bytes.now _ _ c.loop-count-test.true
    c.if-count-bytes.false c.loop-count.invariant c.if-byte-lt128.false)

pub returns-in-Some-2 : goal.returns-in-Some-2
returns-in-Some-2 c = grind (arith, common_steps, is_long)
