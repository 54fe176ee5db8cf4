-- A line's frames are those of its stack text. Memory runs out only at a line that spells a row which can follow.
use Rattle.std.proofs.lemmas.List.{length-map}
use Rattle.std.proofs.Common.{All, List, ℕ, ◌≡◌, ◌∙◌, ap, arith, length, map, subst}
use Rattle.std.proofs.lemmas.Result.{MatchResult-weaker, err_from_is_err_and}
use Rattle.name_counts.specs.NumberedRows.{NumberedFrames}
use Rattle.name_counts.specs.TextTables.{number_in, with_texts}
use Rattle.profile_rows.specs.Names.{IsName}
use Rattle.ordered_rows.specs.StackFrames.{frames_of}
use Rattle.folded_text.proofs.Reading.{IsLineFault-fitting, IsLineFault-memory, IsRowLine-read, text_one_line}
use Rattle.folded_text.proofs.folded.read_stack.Goals as goal

pub returns-in_err-fitting : goal.returns-in_err-fitting
returns-in_err-fitting c = λ line one this.
    let told = err_from_is_err_and c.from_residual.result c.from_residual.ensures.1 in
    rw (told.1, told.2) (IsLineFault-fitting _ _ line c.args.stack.now _ _ _ this c.measured.ensures.depth
    c.in_err-fitting.ensures)

pub returns-in_default : goal.returns-in_default
returns-in_default c = λ line one this.
    let (most, fits) = c.in_ok-fitting.ensures in
    IsLineFault-memory _ c.args.number line c.args.stack.now _ _ this c.measured.ensures.depth most fits

-- there are as many numbers as frames
many : (numbers : List ℕ) (row : NumberedFrames) (stack : List (List ℕ))
    → numbers ≡ map (number_in row.texts) row.frames → row.frames ≡ stack → length numbers ≡ length stack
many numbers row stack are is = ap length are ∙ length-map row.frames (number_in row.texts) ∙ ap length is

pub returns : goal.returns
returns c = λ line one this.
    let stack = c.args.stack.now in
    let frames = c.in-Ok.ensures.frames ∙ c.of.ensures.frames in
    let depth = many c.numbers.result.now c.replace.new.self (frames_of stack) c.numbers.ensures.numbers frames in
    MatchResult-weaker c.fitting-2.result c.fitting-2.ensures (λ done room. (
      record {
        names = c.in-Ok.ensures.names ∙ ap (with_texts c.args.row.now.texts) c.of.ensures.frames;
        frames = frames;
      },
      record {
        spelled = IsRowLine-read line stack c.args.weight this (omega (arith, depth, room.0));
        names = subst (All IsName) c.of.ensures.frames
            (c.of.ensures.names (text_one_line line stack this.digits this.count one));
        fits = room.1;
      },
    )) (λ fault is. IsLineFault-fitting _ _ line stack _ _ fault this depth is)
