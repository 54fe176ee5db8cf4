-- A row more of the text is a row more of the sums.
use Rattle.std.proofs.Common.{◌++◌, ◌∷◌, [], refl}
use Rattle.std.proofs.lemmas.Result.{MatchResult-weaker}
use Rattle.profile_rows.proofs.MergedRows.{AreMergedSoFar-row}
use Rattle.ordered_rows.specs.SpelledRows.{spelled_rows}
use Rattle.folded_text.proofs.text_rows.TextRowsLineTaker.take_line.Goals as goal

pub returns : goal.returns
returns c = λ rows same fits.
    MatchResult-weaker c.sum_line.result c.sum_line.ensures (λ done added. let (row, this, adds) = added in (
      row,
      this,
      rw (← same.total) adds.fits,
      AreMergedSoFar-row rows (rows ++ row ∷ []) (spelled_rows c.args.self.now) (spelled_rows c.sum_line.new.self) row
          same adds refl,
    )) (λ fault there. rw (← same.total) there)
