-- What is added of texts.
use Rattle.std.specs.Prelude.{ℕ, ◌≡◌, ◌+◌, List, MatchOption, None, Option, Some, drop, length, ⊤}
use Rattle.collect_sources.specs.Lines.{AreFirstLines}
use Rattle.profile_store.specs.Aggregate.{aggregate_of}
use Rattle.profile_store.specs.LineSums.{AreAddedLines}
use Rattle.profile_store.specs.SpelledRows.{spelled_rows}
use Rattle.profile_store.specs.StackTexts.{TextState}
use Rattle.profile_store.specs.Values.{BatchState, single_batch}
use Rattle.profile_store.specs.declared.FoldedFault.{FoldedFault}
use Rattle.profile_store.specs.declared.FoldedFault.TheVariants.{NotUtf8, NoCount, Count, Depth, Heavy, NoMemory}
use Rattle.profile_store.specs.declared.WeightedStack.{WeightedStack}
use Rattle.collecting.specs.declared.held_text.Text.{Text}

-- the batch's rows add up to those that were gathered
abbrev pub IsBatchOf : List TextState → BatchState → Type 0
IsBatchOf sums batch = (rows : List WeightedStack)
    × (aggregate_of rows ≡ aggregate_of (spelled_rows sums)) × (batch ≡ single_batch rows)

-- nothing of a text is left once so many bytes more are added: no line follows, or the next one ends its origin
abbrev pub IsLast : Text → ℕ → Option FoldedFault → Type 0
IsLast text len None = text.from + len ≡ length text.bytes.items
IsLast text len (Some (NotUtf8 at)) = ⊤
IsLast text len (Some (NoCount at)) = ⊤
IsLast text len (Some (Count at)) = ⊤
IsLast text len (Some (Depth at)) = ⊤
IsLast text len (Some (Heavy at)) = ⊥
IsLast text len (Some NoMemory) = ⊥

-- a text goes on so many bytes later
abbrev pub IsAfter : Text → ℕ → Text → Type 0
IsAfter text len rest = (rest.bytes ≡ text.bytes) × (rest.from ≡ text.from + len)

-- what is left of a text once so many bytes more are added, up to a fault: the same text after them, or nothing
abbrev pub GoesOn : Text → ℕ → Option FoldedFault → Option Text → Type 0
GoesOn text len fault left = MatchOption left (IsLast text len fault) (IsAfter text len)

-- the next lines of a text, all or as many as a limit leaves, were added to the sums, and it goes on after them
abbrev pub HasAdded : Text → List TextState → List TextState → Option Text → Type 0
HasAdded text old new left = (lines : List ℕ) × (len : ℕ) × (fault : Option FoldedFault)
    × AreFirstLines (drop text.from text.bytes.items) lines
    × AreAddedLines lines (drop len lines) old new fault × GoesOn text len fault left
