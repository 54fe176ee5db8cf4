-- The texts spell the rows that they are of.
use Rattle.std.proofs.Common.{ap, ◌∙◌}
use Rattle.profile_rows.specs.Aggregate.{aggregate_of, rows_of}
use Rattle.ordered_rows.proofs.StackTexts.{AreJoinedTexts-lent, AreTextRows-lent, spelled_are}
use Rattle.ordered_rows.proofs.SpelledRows.{as_text}
use Rattle.ordered_rows.proofs.text_stacks.TextStacks.of_texts.Goals as goal

pub sorted-requires-clause-texts : goal.sorted-requires-clause-texts
sorted-requires-clause-texts c = AreTextRows-lent _ _ c.requires.1 _ c.in_ok-lent_rows.ensures

pub sorted-requires-clause-spelled : goal.sorted-requires-clause-spelled
sorted-requires-clause-spelled c = λ k d lt. (AreJoinedTexts-lent _ _ c.requires.1 _ c.in_ok-lent_rows.ensures k d lt).0

pub returns : goal.returns
returns c = λ weights are.
    as_text (λ rows. rows) c.sorted.result _ _
    (ap (λ rows. rows_of (aggregate_of rows)) (spelled_are _ _ are _ c.in_ok-lent_rows.ensures) ∙ ap rows_of are.whole)
    c.sorted.ensures
