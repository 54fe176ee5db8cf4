-- A text that is missing comes at the end.
use Rattle.std.proofs.Common.{ℕ, List, ap, ◌∙◌, map}
use denote.Ref.{Bor}
use Rattle.name_counts.specs.TextTables.{NumberedTexts, with_text}
use Rattle.name_counts.proofs.TextNumbers.{text_inserted}
use Rattle.name_counts.proofs.text_table.TextTable.add.Goals as goal

pub returns-clause-texts : goal.returns-clause-texts
returns-clause-texts c =
    ap (map (λ (text : Bor (List ℕ)). text.now)) c.in_ok-insert.ensures.keys
    ∙ text_inserted c.self.inside.texts.keys c.args.text
    ∙ ap (λ (table : NumberedTexts). with_text table.texts c.args.text.now) c.self.view_is
