-- Lines of a text, added one after the other.
use Rattle.std.proofs.lemmas.Grind.{common_steps}
use Rattle.std.proofs.Common.{◌≡◌, ℕ, ◌+◌, ◌<◌, List, [], ◌∷◌, ◌++◌, length, arith, refl, sym, ap, ◌∙◌}
use Rattle.std.specs.Str.Lines.{lines}
use Rattle.std.proofs.lemmas.List.{append-nil, append_assoc}
use Rattle.profile_rows.specs.declared.weighted_stacks.WeightedStack.{WeightedStack}
use Rattle.profile_rows.specs.Merging.{AddsRow, AreMergedSoFar}
use Rattle.profile_rows.specs.StackTexts.{TextState}
use Rattle.profile_rows.proofs.MergedRows.{AreMergedSoFar-row}
use Rattle.folded_text.specs.FoldedText.{AreRowLines, IsRowLine}
use Rattle.ordered_rows.specs.SpelledRows.{spelled_rows}
use Rattle.folded_text.proofs.Reading.{AreRowLines-push, AreRowLines-skip}

-- the lines of a text up to its rest were added, and the next one has this number
pub record AreAddedTo (text rest : List ℕ) (old new : List TextState) (number : ℕ) : Type 0 where
  pub before : List (List ℕ)
  pub rows : List WeightedStack
  pub lines_are : lines text ≡ before ++ lines rest
  pub spelled : AreRowLines before rows
  pub sums : AreMergedSoFar (spelled_rows old ++ rows) (spelled_rows new)
  pub number_is : number ≡ length before + 1

pub AreAddedTo-begin : (text : List ℕ) (old : List TextState) → AreAddedTo text text old old 1
AreAddedTo-begin text old = record {
  before = [];
  rows = [];
  lines_are = refl;
  spelled = refl;
  sums = rw (append-nil (spelled_rows old)) (record { weights = λ stack. refl; total = refl });
  number_is = refl;
}

module _ (text rest after line : List ℕ) (old new : List TextState) (number : ℕ)
    (so_far : AreAddedTo text rest old new number) (first : lines rest ≡ line ∷ lines after) where
  pub AreAddedTo-row : (more : List TextState) (row : WeightedStack) → 0 < length line → IsRowLine line row
      → AddsRow (spelled_rows new) (spelled_rows more) row → AreAddedTo text after old more (number + 1)
  AreAddedTo-row more row some this adds = record {
    before = so_far.before ++ line ∷ [];
    rows = so_far.rows ++ row ∷ [];
    lines_are = so_far.lines_are ∙ ap (λ ls. so_far.before ++ ls) first
        ∙ sym (append_assoc so_far.before (line ∷ []) (lines after));
    spelled = AreRowLines-push so_far.before so_far.rows line row so_far.spelled some this;
    sums = AreMergedSoFar-row (spelled_rows old ++ so_far.rows) (spelled_rows old ++ (so_far.rows ++ row ∷ []))
        (spelled_rows new) (spelled_rows more) row so_far.sums adds (grind (arith, common_steps));
    number_is = grind (arith, common_steps, so_far.number_is);
  }

  pub AreAddedTo-skip : length line ≡ 0 → AreAddedTo text after old new (number + 1)
  AreAddedTo-skip empty = record {
    before = so_far.before ++ line ∷ [];
    rows = so_far.rows;
    lines_are = so_far.lines_are ∙ ap (λ ls. so_far.before ++ ls) first
        ∙ sym (append_assoc so_far.before (line ∷ []) (lines after));
    spelled = grind (arith, common_steps, AreRowLines-skip so_far.before so_far.rows so_far.spelled);
    sums = so_far.sums;
    number_is = grind (arith, common_steps, so_far.number_is);
  }
