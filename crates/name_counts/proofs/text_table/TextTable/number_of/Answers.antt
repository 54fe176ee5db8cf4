-- The set answers with the text's number, or with none.
use Rattle.std.proofs.Common.{ℕ, List, ap, ◌∙◌}
use Rattle.std.specs.Prelude.{position, unwrap_or}
use Rattle.std.specs.Str.{bytes_eq}
use denote.Ref.{Bor}
use Rattle.name_counts.specs.TextTables.{NumberedTexts, number_in}
use Rattle.name_counts.proofs.TextNumbers.{number_answered}
use Rattle.name_counts.proofs.text_table.TextTable.number_of.Goals as goal

pub returns-clause-number : goal.returns-clause-number
returns-clause-number c =
    c.unwrap_or.ensures
    ∙ ap (λ found. unwrap_or found c.len.result) c.get_index_of.ensures.index
    ∙ ap (unwrap_or (position (λ (item : Bor (List ℕ)). bytes_eq c.args.text.now item.now) c.self.inside.texts.keys))
    c.len.ensures.len
    ∙ number_answered c.self.inside.texts.keys c.args.text.now
    ∙ ap (λ (table : NumberedTexts). number_in table.texts c.args.text.now) c.self.view_is
