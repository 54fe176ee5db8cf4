-- Rows in order answer as all rows do.
use Rattle.std.proofs.lemmas.Result.{err_from_is_err_and}
use Rattle.flame_answers.specs.Inputs.Wanted.{for_report}
use Rattle.flame_answers.proofs.Inputs.{work_refused}
use Rattle.flame_answers.proofs.answers.folded_answer.Goals as goal

pub returns-in_err-rows : goal.returns-in_err-rows
returns-in_err-rows c = λ value.
    let told = err_from_is_err_and c.from_residual.result c.from_residual.ensures.1 in
    rw (told.1) (work_refused (for_report value) c.args.input.now c.in_err-rows.field-0.0 told.0
    c.in_err-rows.ensures.read c.in_err-rows.ensures.accepted told.2)
