-- What was read adds up to the rows of the text.
use Rattle.profile_rows.proofs.MergedRows.{AreMergedSoFar-same}
use Rattle.ordered_rows.specs.SpelledRows.{spelled_rows}
use Rattle.folded_text.proofs.text_rows.read_text_rows.Goals as goal

pub returns : goal.returns
returns c =
    let (rows, folded, sums) = c.in_ok-take_lines.ensures in
    (rows, folded, AreMergedSoFar-same rows (spelled_rows c.take_lines.new.taker) sums)
