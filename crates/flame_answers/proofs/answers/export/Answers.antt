use Rattle.std.proofs.Common.{None}
use Rattle.std.proofs.lemmas.Result.{err_from_is_err_and}
use Rattle.flame_answers.specs.Inputs.Wanted.{for_report}
use Rattle.flame_answers.proofs.Inputs.{work_refused}
use Rattle.flame_answers.proofs.answers.export.Goals as goal

pub returns-in_err-bytes : goal.returns-in_err-bytes
returns-in_err-bytes c =
    let told = err_from_is_err_and c.from_residual.result c.from_residual.ensures.1 in
    rw (told.1) (work_refused (for_report None) c.args.input.now c.in_err-bytes.field-0.0 told.0
    c.in_err-bytes.ensures.read c.in_err-bytes.ensures.accepted told.2)
