use Rattle.std.proofs.lemmas.Result.{err_from_is_err_and}
use Rattle.flame_answers.specs.Inputs.Wanted.{for_store}
use Rattle.flame_answers.proofs.Inputs.{bytes_refused, samples_refused}
use Rattle.flame_answers.proofs.batches.profile_batch.Goals as goal

pub returns-in_err-profile : goal.returns-in_err-profile
returns-in_err-profile c =
    let told = err_from_is_err_and c.from_residual.result c.from_residual.ensures.1 in
    rw (told.1) (bytes_refused (for_store c.args.all c.args.value.now) c.args.input.now
    c.in_err-profile.field-0.0 told.0 c.in_err-profile.ensures.fault c.in_err-profile.ensures.every_profile told.2)

pub returns-in_err-batch : goal.returns-in_err-batch
returns-in_err-batch c =
    let told = err_from_is_err_and c.from_residual-in_err-batch.result c.from_residual-in_err-batch.ensures.1 in
    rw (told.1) (samples_refused (for_store c.args.all c.args.value.now) c.args.input.now c.in_ok-profile.profile
    c.choice_for_store.result c.in_err-batch.field-0.0 told.0 c.in_ok-profile.ensures.read
    (λ other is. c.in_ok-profile.ensures.every_profile other is) c.choice_for_store.ensures
    c.in_err-batch.ensures.read c.in_err-batch.ensures.accepted told.2)
