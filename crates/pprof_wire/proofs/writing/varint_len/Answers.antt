use Rattle.std.proofs.lemmas.Grind.{common_steps}
use Rattle.std.proofs.Common.{length, arith, ap, refl}
use Rattle.pprof_wire.specs.Varints.{varint_of}
use Rattle.pprof_wire.proofs.ShortestVarints.{all-left, next-left, last-left, length-varint_of}
use Rattle.pprof_wire.proofs.writing.varint_len.Goals as goal

pub loop-rest-init : goal.loop-rest-init
loop-rest-init c =
    record { groups = varint_of c.args.number; left = all-left c.args.number c.ranges.number.fits; counted = refl }

pub overflow_add-len : goal.overflow_add-len
overflow_add-len c = omega (arith, c.loop-rest.invariant.counted, length-varint_of c.args.number c.ranges.number.fits)

pub loop-rest-preserved : goal.loop-rest-preserved
loop-rest-preserved c =
    let next =
    next-left c.loop-rest.invariant.groups c.loop-rest.rest c.loop-rest.invariant.left c.loop-rest-test.true in
    record {
      groups =
          next.others;
      left = next.left;
      counted = omega (arith, c.loop-rest.invariant.counted, ap length next.are);
    }

pub returns-clause-most : goal.returns-clause-most
returns-clause-most c = grind (arith, common_steps, last-left, length-varint_of)
