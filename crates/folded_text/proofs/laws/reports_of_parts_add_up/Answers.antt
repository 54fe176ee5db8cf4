use Rattle.std.proofs.Common.{ap, subst, ◌++◌}
use Rattle.std.proofs.lemmas.Grind.{flat_map-append}
use Rattle.profile_rows.specs.Aggregate.{rows_of}
use Rattle.profile_rows.proofs.AnswerLaws.{aggregate_of-parts}
use Rattle.folded_text.specs.FoldedText.{IsFoldedText, row_text, rows_text}
use Rattle.folded_text.proofs.Writing.{rows_text-IsFoldedText}
use Rattle.folded_text.proofs.laws.reports_of_parts_add_up.Goals as goal

pub returns-clause-read : goal.returns-clause-read
returns-clause-read c = λ rows more batch fits.
    subst (λ text. IsFoldedText text (rows ++ more)) (flat_map-append row_text rows more)
    (rows_text-IsFoldedText (rows ++ more) batch fits)

pub returns-clause-report : goal.returns-clause-report
returns-clause-report c = λ rows more. ap (λ weights. rows_text (rows_of weights)) (aggregate_of-parts rows more)
