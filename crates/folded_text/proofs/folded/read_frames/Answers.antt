-- A line's frames are those of its stack text. Memory runs out only at a line that spells a row which can follow.
use Rattle.std.proofs.lemmas.Grind.{common_steps}
use Rattle.std.proofs.Common.{arith}
use Rattle.std.proofs.lemmas.Result.{err_from_is_err_and}
use Rattle.folded_text.proofs.Reading.{IsLineFault-fitting, IsLineFault-memory, IsRowLine-read}
use Rattle.folded_text.proofs.folded.read_frames.Goals as goal

pub returns-in_err-fitting : goal.returns-in_err-fitting
returns-in_err-fitting c = grind (arith, common_steps, err_from_is_err_and, IsLineFault-fitting)

pub returns-in_default : goal.returns-in_default
returns-in_default c =
    let (most, fits) = c.in_ok-fitting.ensures in
    IsLineFault-memory _ c.args.number c.args.line.now c.in_ok-stack.stack.now _ _ c.in_ok-stack.ensures
    c.measured.ensures.depth most fits

pub returns-in_err-fitting-2 : goal.returns-in_err-fitting-2
returns-in_err-fitting-2 c =
    grind (arith, common_steps, err_from_is_err_and, IsLineFault-fitting, c.in-Ok.ensures.texts)

pub returns : goal.returns
returns c = grind (arith, common_steps, IsRowLine-read)
