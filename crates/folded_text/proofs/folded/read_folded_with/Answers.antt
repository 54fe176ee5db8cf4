-- What was read decides what any reading of the text gives.
use Rattle.std.proofs.lemmas.Grind.{common_steps}
use Rattle.std.proofs.Common.{arith, Ok}
use Rattle.std.proofs.lemmas.Result.{err_from_is_err_and}
use Rattle.folded_text.proofs.FirstFault.{gives_batch}
use Rattle.folded_text.proofs.folded.read_folded_with.Goals as goal

pub returns : goal.returns
returns c = gives_batch c.args.text.now (Ok _) (grind (arith, common_steps))

pub returns-in_err-take_lines : goal.returns-in_err-take_lines
returns-in_err-take_lines c = gives_batch c.args.text.now _ (grind (arith, common_steps, err_from_is_err_and))
