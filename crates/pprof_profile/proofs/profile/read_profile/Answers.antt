use Rattle.std.proofs.Common.{arith}
use Rattle.std.proofs.lemmas.Result.{err_from_is_err_and}
use Rattle.pprof_profile.proofs.profile.read_profile.Goals as goal

pub returns-in_err-validate : goal.returns-in_err-validate
returns-in_err-validate c = grind (arith, err_from_is_err_and)
