-- Rows of text that comes in pieces.
use Rattle.std.specs.Prelude.{ℕ, ◌≡◌, ◌≢◌, ◌+◌, ◌^◌, ◌<◌, ◌≤◌, ◌∷◌, ◌++◌, [], All, List, MatchOption, Option, String}
use Rattle.std.specs.Prelude.{drop, length, map, string_bytes}
use Rattle.std.specs.Str.Lines.{lines}
use Rattle.profile_rows.specs.declared.weighted_stacks.WeightedStack.{WeightedStack}
use Rattle.profile_rows.specs.Merging.{AreMergedSoFar}
use Rattle.profile_rows.specs.Rows.{total_of}
use Rattle.profile_rows.specs.StackTexts.{TextState}
use Rattle.folded_text.specs.declared.folded.FoldedFault.{FoldedFault}
use Rattle.folded_text.specs.FoldedText.{AreRowLines, IsLineFault}
use Rattle.ordered_rows.specs.SpelledRows.{IsStackText, spelled_rows}

-- a row by its stack text, which is kept
abbrev pub kept_row : {Z : Type 0} → String Z × ℕ → TextState
kept_row entry = record { text = string_bytes entry.0; weight = entry.1 }

abbrev pub kept_rows : {Z : Type 0} → List (String Z × ℕ) → List TextState
kept_rows entries = map kept_row entries

-- rows of stack texts, and what they weigh together
pub record AreKeptTexts (rows : List TextState) (total : ℕ) : Type 0 where
  pub spelled : All (λ (row : TextState). IsStackText row.text) rows
  pub total_is : total ≡ total_of (spelled_rows rows)
  pub fits : total < 2 ^ 63

-- a text's first line, without its end, and how many bytes it has with it
pub record IsFirstLine (text line : List ℕ) (size : ℕ) : Type 0 where
  pub lines_are : lines text ≡ line ∷ lines (drop size text)
  pub one_line : All (λ (byte : ℕ). byte ≢ 10) line
  pub some : 0 < size
  pub within : size ≤ length text

-- the first line of what is left of a text has this fault after rows of the weight `earlier`
abbrev pub StopsAt : List ℕ → ℕ → ℕ → FoldedFault → Type 0
StopsAt rest earlier number fault = (line : List ℕ) × (after : List (List ℕ))
    × (lines rest ≡ line ∷ after) × (0 < length line) × IsLineFault earlier number line fault

-- The lines of a text up to its rest were added: they spell the rows where they aren't empty, and the sums weigh more
-- by these. The rest is empty, or begins with a line that has the fault.
pub record AreAddedLines (text rest : List ℕ) (old new : List TextState) (fault : Option FoldedFault) : Type 0 where
  pub before : List (List ℕ)
  pub rows : List WeightedStack
  pub lines_are : lines text ≡ before ++ lines rest
  pub spelled : AreRowLines before rows
  pub sums : AreMergedSoFar (spelled_rows old ++ rows) (spelled_rows new)
  pub stops : MatchOption fault (rest ≡ []) (StopsAt rest (total_of (spelled_rows new)) (length before + 1))
