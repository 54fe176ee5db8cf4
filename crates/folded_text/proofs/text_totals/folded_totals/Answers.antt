-- The totals with copies of their names.
use Rattle.std.specs.Prelude.{Ok}
use Rattle.folded_text.proofs.FirstFault.{gives_of_rows}
use Rattle.folded_text.proofs.text_totals.folded_totals.Goals as goal

pub returns : goal.returns
returns c =
    let (rows, read, totals) = c.in_ok-lent.ensures.read in
    gives_of_rows c.args.text.now _ (Ok _) (rows, read, c.in_ok-keep.ensures rows totals)
