-- What was read decides the rows in order.
use Rattle.std.proofs.lemmas.Grind.{common_steps}
use Rattle.std.proofs.Common.{arith}
use Rattle.std.specs.Prelude.{Ok}
use Rattle.std.proofs.lemmas.Result.{err_from_is_err_and}
use Rattle.folded_text.proofs.FirstFault.{gives_of_rows}
use Rattle.folded_text.proofs.merged.read_ordered.Goals as goal

pub returns : goal.returns
returns c = gives_of_rows c.args.text.now _ (Ok _) (grind (arith, common_steps))

pub returns-in_err-sums : goal.returns-in_err-sums
returns-in_err-sums c = gives_of_rows c.args.text.now _ _ (grind (arith, common_steps, err_from_is_err_and))
