use Rattle.std.proofs.Common.{refl}
use Rattle.std.proofs.lemmas.Result.{err_from_is_err_and}
use Rattle.flame_program.proofs.Parts.{more_written_cut, beginning_kept}
use Rattle.flame_program.proofs.streams.write_text.Goals as goal

pub loop-rest-preserved : goal.loop-rest-preserved
loop-rest-preserved g c = more_written_cut _ _ _ _ _ _ _ refl c.loop-rest.invariant c.in_ok-count.ensures.bytes

pub returns-in_err-count-clause-cut : goal.returns-in_err-count-clause-cut
returns-in_err-count-clause-cut g c =
    let told = err_from_is_err_and c.from_residual.result c.from_residual.ensures.1 in
    rw (told.1) (beginning_kept _ _ _ _ _ c.loop-rest.invariant c.in_err-count.ensures.bytes)
