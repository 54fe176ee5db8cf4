-- The number is that of the frame's name, and the others stay as that name comes.
use Rattle.std.proofs.lemmas.Grind.{common_steps}
use Rattle.std.proofs.Common.{rules, arith, length, subst}
use Rattle.name_counts.specs.NumberedRows.{HasFrameAt, NumberedFrames}
use Rattle.std.proofs.lemmas.Result.{err_from_is_err_and}
use Rattle.name_counts.proofs.NumberedRows.{frame_pushed, frames-kept, numbered, numbers-kept}
use Rattle.name_counts.proofs.NumberedRows.{numbers-pushed}
use Rattle.name_counts.proofs.numbered_row.NumberedRow.push.Goals as goal

pub invariant_of-self-in_err-push : goal.invariant_of-self-in_err-push
invariant_of-self-in_err-push c = search (rules, numbers-kept)

pub invariant_of-self-2 : goal.invariant_of-self-2
invariant_of-self-2 c = grind (arith, common_steps, numbers-pushed)

pub returns-in_err-push : goal.returns-in_err-push
returns-in_err-push c = grind (arith, common_steps, err_from_is_err_and, frames-kept)

pub returns : goal.returns
returns c = subst (λ (row : NumberedFrames). HasFrameAt (length row.frames) c.args.frame.now row
    (numbered c.number_with.new.self.texts c.push.new.self.items c.number_with.new.self.hashing)) c.self.view_is
    (frame_pushed c.self.inside.names.texts c.number_with.new.self.texts c.self.inside.numbers.items
    c.push.new.self.items c.self.inside.names.hashing c.number_with.new.self.hashing c.args.frame.now
    c.in_ok-number.number c.in_ok-number.ensures.texts
    (grind (arith, common_steps)) (grind (arith, common_steps)) c.self.invariant (grind (arith, common_steps)))
