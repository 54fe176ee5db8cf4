-- What was counted decides the totals of the text's rows.
use Rattle.std.proofs.lemmas.Grind.{common_steps}
use Rattle.std.proofs.Common.{arith}
use Rattle.std.specs.Prelude.{Ok}
use Rattle.std.proofs.lemmas.Result.{err_from_is_err_and}
use Rattle.folded_text.proofs.Counting.{AreTotalsOf-merged}
use Rattle.folded_text.proofs.FirstFault.{gives_of_rows}
use Rattle.folded_text.proofs.text_totals.lent_totals.Goals as goal

pub returns : goal.returns
returns c =
    let (rows, read, (merged, same, counted)) = c.in_ok-take_lines.ensures in
    let totals = c.in_ok-totals.ensures merged counted in
    gives_of_rows c.args.text.now _ (Ok _) (rows, read, AreTotalsOf-merged rows merged _ same totals)

pub returns-in_err-take_lines : goal.returns-in_err-take_lines
returns-in_err-take_lines c = gives_of_rows c.args.text.now _ _ (grind (arith, common_steps, err_from_is_err_and))
