-- What an input answers to a query, and what it is exported as.
use Rattle.std.specs.Prelude.{ℕ, ◌≡◌, List, [], ◌∷◌, ◌++◌, Option}
use Rattle.std.specs.Fmt.{decimal}
use Rattle.profile_rows.specs.declared.weighted_stacks.WeightedStack.{WeightedStack}
use Rattle.profile_rows.specs.TopList.{top_text_of}
use Rattle.pprof_profile.specs.Canonical.{canonical_bytes_of}
use Rattle.profile_samples.specs.Export.{single_profile_of}
use Rattle.folded_text.specs.FoldedText.{IsFoldedText}
use Rattle.flame_report.specs.declared.answer.Answer.{Answer}
use Rattle.flame_report.specs.declared.answer.Answer.TheVariants as answer
use Rattle.flame_report.specs.Answers.{answer_by, answer_of}
use Rattle.flame_report.specs.declared.query.Kind.{Kind}
use Rattle.flame_report.specs.declared.query.Query.{Query}
use Rattle.flame_report.specs.Json.{flame_json_of}
use Rattle.flame_words.specs.declared.request.Format.{Format}
use Rattle.flame_answers.specs.Inputs.{IsIn}
use Rattle.flame_answers.specs.Inputs.Wanted.{for_report}

abbrev pub answer_text : Answer → List ℕ
answer_text (answer.Total total) = decimal total ++ 10 ∷ []
answer_text (answer.Top top) = top_text_of top.total top.rows
answer_text (answer.Flame flame) = flame_json_of flame ++ 10 ∷ []
answer_text (answer.Folded text) = text

-- the text is the answer to a query over the rows of the input
pub record IsReport (format : Format) (value : Option (List ℕ)) (query : Query) (input text : List ℕ) : Type 0 where
  pub rows : List WeightedStack
  pub spelled : IsIn format (for_report value) input rows
  pub whole : text ≡ answer_text (answer_of rows query)

-- the bytes are those of the profile of the rows that folded text spells
pub record IsExport (kind unit input bytes : List ℕ) : Type 0 where
  pub rows : List WeightedStack
  pub spelled : IsFoldedText input rows
  pub whole : bytes ≡ canonical_bytes_of (single_profile_of rows kind unit)

-- the text is what all rows of an input answer to a question
abbrev pub IsAnswerOfAll : Format → Option (List ℕ) → List ℕ → Kind → List ℕ → Type 0
IsAnswerOfAll format value input kind text = (all : List WeightedStack)
    × IsIn format (for_report value) input all × (text ≡ answer_text (answer_by kind all))
