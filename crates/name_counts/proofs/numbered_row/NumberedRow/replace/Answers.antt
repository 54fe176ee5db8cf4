-- Each frame stands after those before it, and what comes after the last goes.
use Rattle.std.proofs.lemmas.Grind.{common_steps}
use Rattle.std.proofs.lemmas.Result.{err_from_is_err_and}
use Rattle.std.proofs.Common.{arith}
use Rattle.name_counts.proofs.NumberedRows.{all_replaced, first_replaced, next_replaced}
use Rattle.name_counts.proofs.numbered_row.NumberedRow.replace.Goals as goal

pub overflow_add-depth : goal.overflow_add-depth
overflow_add-depth g c = let there = c.in_ok-set.ensures in omega (arith, there.fits)

pub loop-frame-preserved : goal.loop-frame-preserved
loop-frame-preserved g c =
    let so_far = c.loop-frame.invariant in
    let there = c.in_ok-set.ensures in
    let (names, frames) = next_replaced _ c.loop-frame.self c.set.new.self c.loop-frame.depth c.in-Some.frame.now _ _ _
    so_far.names so_far.frames c.in-Some.ensures there in
    record { inside = omega (arith, there.inside); names = names; frames = frames }

pub returns-in_err-set : goal.returns-in_err-set
returns-in_err-set g c =
    let so_far = c.loop-frame.invariant in
    let first = first_replaced c.loop-frame.self c.loop-frame.depth _ _ c.set.new.self.frames so_far.inside
    so_far.frames c.in_err-set.ensures in
    grind (arith, common_steps, err_from_is_err_and, first)

pub returns : goal.returns
returns g c =
    let so_far = c.loop-frame.invariant in
    all_replaced _ c.loop-frame.self c.keep.new.self c.loop-frame.depth _ _ so_far.names so_far.frames
    c.in_default.ensures c.keep.ensures
