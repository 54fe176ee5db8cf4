use Rattle.std.proofs.lemmas.Grind.{common_steps}
use Rattle.std.proofs.Common.{◌+◌, ◌%◌, ◌++◌, ◌∙◌, List, length, arith, ap, ℕ}
use Rattle.pprof_wire.proofs.ShortestVarints.{all-left, next-left, pushed_next}
use Rattle.pprof_wire.proofs.writing.push_varint.Goals as goal

pub loop-rest-init : goal.loop-rest-init
loop-rest-init c = grind (arith, common_steps, all-left)

pub loop-rest-preserved : goal.loop-rest-preserved
loop-rest-preserved c =
    let so-far = c.loop-rest.invariant.0 in
    let next = next-left so-far.groups c.loop-rest.rest so-far.left c.loop-rest-test.true in
    let pushed = rw c.unwrap.ensures at c.push.ensures.items in
    let longer = rw c.unwrap.ensures at c.push.ensures.len in (
      record {
        groups = next.others;
        left = next.left;
        joined = ap (λ (items : List ℕ). items ++ next.others) pushed ∙ pushed_next c.loop-rest.out.items so-far.groups
            (c.loop-rest.rest % 128 + 128) next.others next.are ∙ so-far.joined;
        room = omega (arith, longer, so-far.room, ap length next.are, c.push.ensures.capacity);
      },
      omega (arith, c.loop-rest.invariant.1, c.push.ensures.capacity),
    )
