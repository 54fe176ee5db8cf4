-- Rows whose stacks are known by their texts.
use Rattle.std.specs.Prelude.{ℕ, ◌≡◌, ◌≢◌, ◌<◌, ◌≤◌, All, List, length, map, sum_by, if◌then◌else◌}
use Rattle.std.specs.Str.{bytes_eq}
use Rattle.std.specs.declared.cmp.Ordering.{Ordering}
use Rattle.profile_rows.specs.declared.weighted_stacks.WeightedStack.{WeightedStack}
use Rattle.profile_rows.specs.Limits.{most_frames}
use Rattle.profile_rows.specs.StackTexts.{TextState}
use Rattle.ordered_rows.specs.StackFrames.{frames_of}
use Rattle.ordered_rows.specs.StackOrder.{IsJoined, stack_text_cmp}

-- the row that a stack text and a weight spell
abbrev pub spelled_row : TextState → WeightedStack
spelled_row row = record { stack = frames_of row.text; weight = row.weight }

abbrev pub spelled_rows : List TextState → List WeightedStack
spelled_rows rows = map spelled_row rows

-- how many rows have this stack text
abbrev pub rows_with : List ℕ → List TextState → ℕ
rows_with text rows = sum_by (λ (row : TextState). if bytes_eq text row.text then 1 else 0) rows

-- the text of a stack that a row can have, within one line
abbrev pub IsStackText : List ℕ → Type 0
IsStackText text = (length (frames_of text) ≤ most_frames) × All (λ (byte : ℕ). byte ≢ 10) text

-- so many frames of so many bytes together has a stack text
pub record IsMeasured (text : List ℕ) (count size : ℕ) : Type 0 where
  pub depth : count ≡ length (frames_of text)
  pub bytes : size ≡ sum_by length (frames_of text)

-- rows in the order of their texts
abbrev pub by_text : TextState → TextState → Ordering
by_text row other = stack_text_cmp row.text other.text

-- Rows of weight above 0, one for each stack text, whose stack texts have no empty frames: they are in the order of
-- stacks where their texts are in the order of texts.
pub record AreTextRows (rows : List TextState) : Type 0 where
  pub weighty : All (λ (row : TextState). 0 < row.weight) rows
  pub once : (text : List ℕ) → rows_with text rows ≤ 1
  pub joined : All (λ (row : TextState). IsJoined row.text) rows

-- texts of stacks without empty frames
abbrev pub AreJoinedTexts : List TextState → Type 0
AreJoinedTexts rows = All (λ (row : TextState). IsStackText row.text × IsJoined row.text) rows
