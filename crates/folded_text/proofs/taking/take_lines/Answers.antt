-- The lines are taken in order: each is a row more, or empty, or has the first fault.
use Rattle.std.proofs.lemmas.Grind.{common_steps}
use Rattle.std.proofs.Common.{arith, subst, ◌+◌, ◌++◌, ◌∷◌, ◌≢◌, [], sym, ◌∙◌, refl}
use Rattle.std.specs.Prelude.{All}
use Rattle.std.specs.Str.{IsUtf8}
use Rattle.std.proofs.lemmas.Bool.{eqb-true}
use Rattle.std.proofs.lemmas.Result.{err_from_is_err_and}
use Rattle.profile_rows.proofs.Cleaning.{filled}
use Rattle.folded_text.specs.FoldedText.{IsRowLine}
use Rattle.folded_text.proofs.Lines.{lines-IsUtf8, lines-one_line}
use Rattle.folded_text.proofs.Reading.{IsFirstFault-not_utf8, IsReadTo-begin, IsReadTo-line, IsReadTo-row}
use Rattle.folded_text.proofs.Reading.{IsReadTo-skip}
use Rattle.folded_text.proofs.taking.take_lines.Goals as goal

pub loop-index-init : goal.loop-index-init
loop-index-init g c = grind (arith, common_steps, IsReadTo-begin)

pub text_of-requires : goal.text_of-requires
text_of-requires g c = λ is_utf8.
    let (rows, so_far, taken) = c.loop-index.invariant in
    IsReadTo-line IsUtf8 c.args.text.now _ _ rows c.in-Some.line.now _ so_far c.in-Some.ensures.steps.0
    (lines-IsUtf8 c.args.text.now (grind (arith, common_steps)))

pub take_line-requires : goal.take_line-requires
take_line-requires g c =
    let (rows, so_far, taken) = c.loop-index.invariant in
    let one_line = subst (All (λ byte. byte ≢ 10)) (sym c.in_ok-text_of.ensures)
    (IsReadTo-line (All (λ byte. byte ≢ 10)) c.args.text.now _ _ rows c.in-Some.line.now _ so_far
    c.in-Some.ensures.steps.0 (lines-one_line c.args.text.now)) in
    λ k. ((refl, tt), (one_line, (rows, taken, so_far.fits)))

pub loop-index-preserved-in_ok-take_line : goal.loop-index-preserved-in_ok-take_line
loop-index-preserved-in_ok-take_line g c =
    let (rows, so_far, taken) = c.loop-index.invariant in
    let (row, this, fits, more) = c.in_ok-take_line.ensures rows taken so_far.fits in
    let line = c.in_ok-text_of.ensures in
    let some = filled c.in-Some.line.now (sym c.is_empty.ensures ∙ c.if-not-is_empty.true) in
    let read = IsReadTo-row c.args.text.now _ _ rows c.in-Some.line.now _ _ row _ so_far c.in-Some.ensures.steps.0
    c.in-Some.ensures.steps.2 some (subst (λ line. IsRowLine line row) line this) fits refl in
    (rows ++ row ∷ [], read, more)

pub loop-index-preserved : goal.loop-index-preserved
loop-index-preserved g c = grind (arith, common_steps, eqb-true, IsReadTo-skip)

pub returns-in_err-text_of : goal.returns-in_err-text_of
returns-in_err-text_of g c =
    let (rows, so_far, taken) = c.loop-index.invariant in
    let some = filled c.in-Some.line.now (sym c.is_empty.ensures ∙ c.if-not-is_empty.true) in
    let first = IsFirstFault-not_utf8 c.args.text.now _ _ rows c.in-Some.line.now _ (c.in-Some.index + 1) so_far
    c.in-Some.ensures.steps.0 some (grind (arith, common_steps)) c.in_err-text_of.ensures.1 in
    let fault = c.in_err-text_of.ensures.0 in
    grind (arith, common_steps, err_from_is_err_and, first, fault)
