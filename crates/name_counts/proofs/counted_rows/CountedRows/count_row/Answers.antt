-- The row's frames have their numbers, and its leaf's is the last.
use Rattle.std.proofs.Common.{arith, ◌≡◌, ℕ, List, length, map, ap, ◌∙◌}
use Rattle.std.proofs.lemmas.List.{length-map}
use denote.Ref.{Bor}
use Rattle.name_counts.specs.declared.tallies.Tallies.{Tallies}
use Rattle.profile_rows.specs.declared.weighted_stacks.WeightedStack.{WeightedStack}
use Rattle.name_counts.specs.Tallies.{AreTalliesOf}
use Rattle.name_counts.specs.TextTables.{NumberedTexts, with_texts}
use Rattle.name_counts.proofs.NumberedRows.{row_numbered}
use Rattle.name_counts.proofs.TextNumbers.{text_of}
use Rattle.name_counts.proofs.counted_rows.CountedRows.count_row.Goals as goal

-- the tallies reach all names, of which the row's may be new
reached : (rows : List WeightedStack) (before frames after : List (List ℕ)) (table : NumberedTexts)
    (lent : List (Bor (List ℕ))) (old new : Tallies) → after ≡ with_texts before frames → table.texts ≡ after
    → map text_of lent ≡ table.texts → AreTalliesOf rows before old
    → ((names more : List (List ℕ)) (rows : List WeightedStack) → length (with_texts names more) ≡ length lent
    → AreTalliesOf rows names old → AreTalliesOf rows (with_texts names more) new)
    → AreTalliesOf rows after new
reached rows before frames after table lent old new names known texts are counted = grind (arith, length-map, text_of)

pub count-requires-clause-counted : goal.count-requires-clause-counted
count-requires-clause-counted c =
    let (rows, (names, this, texts)) = c.requires.counted in (
      c.args.self.now.row.texts,
      rows,
      c.args.self.now.row.frames,
      reached rows names c.args.self.now.row.frames c.args.self.now.row.texts c.names.result.now c.texts.result.now
          c.args.self.now.tallies c.reach.new.self texts
          (ap (λ (table : NumberedTexts). table.texts) c.names.ensures) c.texts.ensures this
          c.in_ok-reach.ensures.counted,
      row_numbered c.args.self.now.row.texts c.args.self.now.row.frames c.numbers-numbers.result.now
          c.copied.result c.numbers-numbers.ensures.names
          c.numbers-numbers.ensures.inside c.requires.names (c.copied.ensures ∙ c.last.ensures.value),
    )

pub returns : goal.returns
returns c = λ rows (names, this, texts).
    c.count.ensures c.args.self.now.row.texts rows c.args.self.now.row.frames
    (reached rows names c.args.self.now.row.frames c.args.self.now.row.texts c.names.result.now c.texts.result.now
    c.args.self.now.tallies c.reach.new.self texts (ap (λ (table : NumberedTexts). table.texts) c.names.ensures)
    c.texts.ensures this c.in_ok-reach.ensures.counted)
    (row_numbered c.args.self.now.row.texts c.args.self.now.row.frames c.numbers-numbers.result.now
    c.copied.result c.numbers-numbers.ensures.names c.numbers-numbers.ensures.inside c.requires.names
    (c.copied.ensures ∙ c.last.ensures.value))
