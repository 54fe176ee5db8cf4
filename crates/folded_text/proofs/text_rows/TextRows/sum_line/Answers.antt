-- The line's weight goes to the row of its stack text, or to a new one.
use Rattle.std.proofs.Common.{arith, ap, sym, ◌∙◌}
use Rattle.std.proofs.lemmas.Result.{err_from_is_err_and}
use Rattle.profile_rows.specs.Rows.{total_of}
use Rattle.ordered_rows.specs.SpelledRows.{spelled_rows}
use Rattle.folded_text.proofs.MergedLines.{added_to}
use Rattle.folded_text.proofs.Reading.{IsLineFault-fitting, IsLineFault-memory, text_one_line}
use Rattle.folded_text.proofs.text_rows.TextRows.sum_line.Goals as goal

pub returns-in-Some : goal.returns-in-Some
returns-in-Some c =
    added_to _ _ _ c.args.line.now c.in_ok-text.text.now c.args.self.now _ c.add_to.result c.in_ok-text.ensures
    c.in-Some.ensures c.add_to.ensures

pub returns-in_err-fitting : goal.returns-in_err-fitting
returns-in_err-fitting c =
    let p = err_from_is_err_and c.from_residual-in_err-fitting.result c.from_residual-in_err-fitting.ensures.1 in
    let total = c.self.invariant.total_is ∙ ap (λ rows. total_of (spelled_rows rows)) c.self.view_is in
    rw (p.1, p.2, sym total) (IsLineFault-fitting _ _ c.args.line.now c.in_ok-text.text.now _ _ _
    c.in_ok-text.ensures c.measured-depth.ensures.depth c.in_err-fitting.ensures)

pub returns-in_err-add : goal.returns-in_err-add
returns-in_err-add c =
    let (most, fits) = c.in_ok-fitting.ensures in
    let p = err_from_is_err_and c.from_residual-in_err-add.result c.from_residual-in_err-add.ensures.1 in
    let total = c.self.invariant.total_is ∙ ap (λ rows. total_of (spelled_rows rows)) c.self.view_is in
    rw (p.1, p.2, sym total) (IsLineFault-memory _ c.args.number c.args.line.now c.in_ok-text.text.now _ _
    c.in_ok-text.ensures c.measured-depth.ensures.depth most fits)

pub add-requires-clause-spelled : goal.add-requires-clause-spelled
add-requires-clause-spelled c =
    let (most, fits) = c.in_ok-fitting.ensures in (
      omega (arith, c.measured-depth.ensures.depth, most),
      text_one_line c.args.line.now c.in_ok-text.text.now _ c.in_ok-text.ensures.count c.requires,
    )
