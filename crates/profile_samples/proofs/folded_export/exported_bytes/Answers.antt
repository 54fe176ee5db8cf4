-- What was exported decides the profile of any reading of the text.
use Rattle.std.proofs.lemmas.Grind.{common_steps}
use Rattle.std.proofs.Common.{arith}
use Rattle.std.proofs.lemmas.Result.{err_from_is_err_and}
use Rattle.std.specs.Prelude.{Ok}
use Rattle.folded_text.proofs.FirstFault.{gives_of_rows}
use Rattle.profile_samples.proofs.folded_export.exported_bytes.Goals as goal

pub returns-in_err-take_lines : goal.returns-in_err-take_lines
returns-in_err-take_lines c = gives_of_rows c.args.text.now _ _ (grind (arith, common_steps, err_from_is_err_and))

pub returns : goal.returns
returns c =
    let (rows, folded, (so_far, known)) = c.in_ok-take_lines.ensures in
    gives_of_rows c.args.text.now _ (Ok _) (rows, folded, c.in_ok-profile_bytes.ensures rows so_far)
