-- Lines of a text.
use Rattle.std.specs.Prelude.{ℕ, ◌≡◌, ◌==◌, ◌⊎◌, ◌+◌, ◌-◌, ◌≤◌, List, length, slice_index, slice_index_or, take}
use Rattle.std.specs.Prelude.{if◌then◌else◌}
use Rattle.std.specs.List.{count_by}

-- how many line feeds a text has
abbrev pub line_ends : List ℕ → ℕ
line_ends text = count_by (λ byte. byte == 10) text

-- 1 where the last line of a text lacks its end
abbrev pub unended_lines : List ℕ → ℕ
unended_lines text = if slice_index_or text (length text - 1) 10 == 10 then 0 else 1

-- how many lines a text has, of which the last may lack its end
abbrev pub line_count : List ℕ → ℕ
line_count text = line_ends text + unended_lines text

-- a text can be cut here without parting a line: at its start, at its end, or after a line feed
pub record IsBetweenLines (text : List ℕ) (at : ℕ) : Type 0 where
  pub within : at ≤ length text
  pub parts : (at ≡ 0) ⊎ ((at ≡ length text) ⊎ (slice_index text (at - 1) ≡ 10))

-- the part of a text that a limit of rows leaves is whole lines of it, from its start
abbrev pub AreFirstLines : List ℕ → List ℕ → Type 0
AreFirstLines text lines = (count : ℕ) × IsBetweenLines text count × (lines ≡ take count text)

-- so many lines from a text's start, or all of it where it has no more
pub record AreSoManyLines (text : List ℕ) (most : ℕ) (lines : List ℕ) : Type 0 where
  pub few : line_count lines ≤ most
  pub all : (lines ≡ text) ⊎ (line_count lines ≡ most)
