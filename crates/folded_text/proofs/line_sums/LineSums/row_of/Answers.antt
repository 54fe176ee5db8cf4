-- A text that is found has its row there.
use Rattle.folded_text.proofs.KeptTexts.{row_found}
use Rattle.folded_text.proofs.line_sums.LineSums.row_of.Goals as goal

pub returns : goal.returns
returns c =
    rw (← c.self.view_is) (row_found c.args.text.now c.self.inside.weights.entries c.self.inside.total
    c.self.invariant _ c.get_index_of.ensures.index c.get_index_of.ensures.found)
