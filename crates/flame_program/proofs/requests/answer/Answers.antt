-- A report's fault, told as one of the program.
use Rattle.std.proofs.Common.{sym, subst}
use Rattle.std.proofs.lemmas.Result.{err_from_is_err_and}
use Rattle.flame_words.specs.declared.request.Request.{Request}
use Rattle.flame_answers.specs.Inputs.Wanted.{for_report}
use Rattle.flame_program.specs.Requests.{IsInputFault}
use Rattle.flame_program.proofs.Unanswered.{unanswered}
use Rattle.flame_program.proofs.requests.answer.Goals as goal

pub returns-in_err-text-in-Report : goal.returns-in_err-text-in-Report
returns-in_err-text-in-Report g c =
    let told = err_from_is_err_and c.from_residual.result c.from_residual.ensures.1 in
    let source = c.in-Report.source in
    rw (told.1) (subst (λ (r : Request). IsInputFault r c.args.input.now told.0) (sym c.in-Report.is)
    (rw (told.2) (unanswered source.format (for_report source.value) c.args.input.now
    c.in_err-text-in-Report.field-0.0 c.in_err-text-in-Report.ensures)))
