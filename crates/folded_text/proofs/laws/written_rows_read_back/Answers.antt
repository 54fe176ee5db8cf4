use Rattle.folded_text.proofs.Writing.{rows_text-IsFoldedText}
use Rattle.folded_text.proofs.laws.written_rows_read_back.Goals as goal

pub returns : goal.returns
returns c = rows_text-IsFoldedText
