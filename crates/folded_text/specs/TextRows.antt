-- Rows of lines by their stack texts, and what is added to them.
use Rattle.std.specs.Prelude.{ℕ, ◌≡◌, ◌+◌, ◌<◌, ◌≤◌, ◌^◌, All, Bool, true, List, map}
use Rattle.profile_rows.specs.declared.weighted_stacks.WeightedStack.{WeightedStack}
use Rattle.profile_rows.specs.Aggregate.{aggregate_of}
use Rattle.profile_rows.specs.Merging.{AddsRow, with_added_at}
use Rattle.profile_rows.specs.Rows.{total_of}
use Rattle.profile_rows.specs.StackTexts.{TextState}
use Rattle.folded_text.specs.declared.folded.FoldedFault.{FoldedFault}
use Rattle.folded_text.specs.declared.folded.FoldedFault.TheVariants.{Heavy}
use Rattle.folded_text.specs.FoldedText.{IsRowLine}
use Rattle.ordered_rows.specs.SpelledRows.{IsStackText, rows_with, spelled_rows}
use Rattle.ordered_rows.specs.StackOrder.{IsJoined}

-- rows whose stack texts can stand in a line, within the limit of 2^63 - 1 together
pub record AreWithinLimits (rows : List TextState) : Type 0 where
  pub spelled : All (λ (row : TextState). IsStackText row.text) rows
  pub fits : total_of (spelled_rows rows) < 2 ^ 63

-- Rows of weight above 0, of which each text has one, at its number. `are_joined` says that no stack text has an empty
-- frame.
pub record AreKnownTexts (texts : List (List ℕ)) (rows : List TextState) (total : ℕ) (are_joined : Bool)
    : Type 0 where
  pub texts_are : texts ≡ map (λ (row : TextState). row.text) rows
  pub once : (text : List ℕ) → rows_with text rows ≤ 1
  pub weighty : All (λ (row : TextState). 0 < row.weight) rows
  pub spelled : All (λ (row : TextState). IsStackText row.text) rows
  pub joined : are_joined ≡ true → All (λ (row : TextState). IsJoined row.text) rows
  pub total_is : total ≡ total_of (spelled_rows rows)
  pub fits : total < 2 ^ 63

-- the rows add up to these
abbrev pub AddUpTo : List WeightedStack → List TextState → Type 0
AddUpTo rows sums = aggregate_of (spelled_rows sums) ≡ aggregate_of rows

-- the line spells a row, which was added
abbrev pub AddsLine : List ℕ → List TextState → List TextState → Type 0
AddsLine line old new = (row : WeightedStack) × IsRowLine line row
    × AddsRow (spelled_rows old) (spelled_rows new) row

-- the row at an index weighs more, and all rows are within the limit
pub record WeighsMoreAt (at weight : ℕ) (old new : List TextState) : Type 0 where
  pub added : spelled_rows new ≡ with_added_at (spelled_rows old) at weight
  pub fits : total_of (spelled_rows old) + weight < 2 ^ 63

-- rows that would pass the limit
abbrev pub IsTooHeavy : ℕ → ℕ → FoldedFault → Type 0
IsTooHeavy number total fault = (fault ≡ Heavy number) × (2 ^ 63 ≤ total)
