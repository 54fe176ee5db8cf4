-- Folded stacks as text, read and written (FlameGraph, the header comment of flamegraph.pl: one line for each stack,
-- its frames from root to leaf separated by semicolons, then a space and a count). What reads it strictly is this
-- project's choice.
use Rattle.std.specs.Prelude.{ℕ, ◌≡◌, ◌≢◌, ◌⊎◌, ◌+◌, ◌^◌, ◌<◌, ◌≤◌, List, [], ◌∷◌, ◌++◌, length}
use Rattle.std.specs.Prelude.{All, MatchResult, Result}
use Rattle.std.specs.List.{flat_map, join_with_byte}
use Rattle.std.specs.Fmt.{decimal}
use Rattle.std.specs.Str.{IsUtf8}
use Rattle.std.specs.Str.Lines.{lines}
use Rattle.std.specs.Str.Parse.{IsNumeral, digits_value}
use Rattle.profile_rows.specs.declared.weighted_stacks.WeightedStack.{WeightedStack}
use Rattle.ordered_rows.specs.StackFrames.{frames_of}
use Rattle.profile_rows.specs.Values.{BatchState, single_batch}
use Rattle.folded_text.specs.declared.folded.FoldedFault.{FoldedFault}
use Rattle.folded_text.specs.declared.folded.FoldedFault.TheVariants.{NotUtf8, NoCount, Count, Depth, Heavy, NoMemory}
use Rattle.profile_rows.specs.Names.{IsName}
use Rattle.profile_rows.specs.Limits.{most_frames}
use Rattle.profile_rows.specs.Rows.{total_of}
use Rattle.profile_rows.specs.Aggregate.{aggregate_of, rows_of}

-- The line is a stack text, a space and the digits of a count. Digits hold no space, so it is the line's last one.
pub record HasCount (line stack digits : List ℕ) : Type 0 where
  pub parts : line ≡ stack ++ 32 ∷ digits
  pub numeral : IsNumeral 10 digits

-- a stack text whose frames are the row's, and a count that is its weight
pub record IsCounted (line : List ℕ) (row : WeightedStack) (stack digits : List ℕ) : Type 0 where
  pub count : HasCount line stack digits
  pub frames : row.stack ≡ frames_of stack
  pub weight : row.weight ≡ digits_value 10 digits

-- the line spells the row, within the limits of 65,535 frames and of a weight of 2^63 - 1
pub record IsRowLine (line : List ℕ) (row : WeightedStack) : Type 0 where
  pub utf8 : IsUtf8 line
  pub counted : (stack : List ℕ) × (digits : List ℕ) × IsCounted line row stack digits
  pub depth : length row.stack ≤ most_frames
  pub fits : row.weight < 2 ^ 63

-- the line spells the row, its frames are names, and it can follow rows of the weight `earlier`
pub record IsRowAfter (earlier : ℕ) (line : List ℕ) (row : WeightedStack) : Type 0 where
  pub spelled : IsRowLine line row
  pub names : All IsName row.stack
  pub fits : earlier + row.weight < 2 ^ 63

-- the line is a stack text and a count, which is the weight and within the limit
pub record HasWeight (line stack : List ℕ) (weight : ℕ) : Type 0 where
  pub utf8 : IsUtf8 line
  pub digits : List ℕ
  pub count : HasCount line stack digits
  pub value : weight ≡ digits_value 10 digits
  pub small : weight < 2 ^ 63

-- the lines that aren't empty spell the rows, one each, in order
abbrev pub AreRowLines : List (List ℕ) → List WeightedStack → Type 0
AreRowLines [] rows = rows ≡ []
AreRowLines ([] ∷ lines) rows = AreRowLines lines rows
AreRowLines ((byte ∷ line) ∷ lines) [] = ⊥
AreRowLines ((byte ∷ line) ∷ lines) (row ∷ rows) = IsRowLine (byte ∷ line) row × AreRowLines lines rows

-- The text is folded text of these rows: its lines spell them, and they keep the limit of 2^63 - 1 together. `lines`
-- ends a line at each line feed, drops one carriage return directly before it, and reads a last line that has no line
-- feed.
pub record IsFoldedText (text : List ℕ) (rows : List WeightedStack) : Type 0 where
  pub rows_lines : AreRowLines (lines text) rows
  pub total_fits : total_of rows < 2 ^ 63

-- why a line spells no stack text and weight: what a row's line fails by before its frames are looked at
abbrev pub IsCountFault : ℕ → List ℕ → FoldedFault → Type 0
IsCountFault number line (NotUtf8 at) = (at ≡ number) × ¬ IsUtf8 line
IsCountFault number line (NoCount at) = (at ≡ number) × IsUtf8 line
    × ((stack digits : List ℕ) → ¬ HasCount line stack digits)
IsCountFault number line (Count at) = (at ≡ number) × IsUtf8 line × (stack : List ℕ) × (digits : List ℕ)
    × HasCount line stack digits × (2 ^ 63 ≤ digits_value 10 digits)
IsCountFault number line (Depth at) = ⊥
IsCountFault number line (Heavy at) = ⊥
IsCountFault number line NoMemory = ⊥

-- why a row of so many frames and of a weight can't follow rows of the weight `earlier`
abbrev pub IsFittingFault : ℕ → ℕ → ℕ → ℕ → FoldedFault → Type 0
IsFittingFault earlier number depth weight (NotUtf8 at) = ⊥
IsFittingFault earlier number depth weight (NoCount at) = ⊥
IsFittingFault earlier number depth weight (Count at) = ⊥
IsFittingFault earlier number depth weight (Depth at) = (at ≡ number) × (most_frames < depth)
IsFittingFault earlier number depth weight (Heavy at) = (at ≡ number) × (depth ≤ most_frames)
    × (2 ^ 63 ≤ earlier + weight)
IsFittingFault earlier number depth weight NoMemory = ⊥

-- Why a line, which isn't empty, adds no row to rows of the weight `earlier`. Each case says that the ones before it
-- don't stand, and memory runs out only at a line without a fault: one that spells a row which can follow.
abbrev pub IsLineFault : ℕ → ℕ → List ℕ → FoldedFault → Type 0
IsLineFault earlier number line (NotUtf8 at) = IsCountFault number line (NotUtf8 at)
IsLineFault earlier number line (NoCount at) = IsCountFault number line (NoCount at)
IsLineFault earlier number line (Count at) = IsCountFault number line (Count at)
IsLineFault earlier number line (Depth at) = (at ≡ number) × IsUtf8 line × (stack : List ℕ) × (digits : List ℕ)
    × HasCount line stack digits × (digits_value 10 digits < 2 ^ 63) × (most_frames < length (frames_of stack))
IsLineFault earlier number line (Heavy at) = (at ≡ number) × (row : WeightedStack) × IsRowLine line row
    × (2 ^ 63 ≤ earlier + row.weight)
IsLineFault earlier number line NoMemory = (row : WeightedStack) × IsRowLine line row
    × (earlier + row.weight < 2 ^ 63)

-- The first fault of a text: it stands at a line, and the lines before it spell rows within the limit. Lines count from
-- 1, empty ones too. Where memory ran out, the lines up to there have no fault.
abbrev pub IsFirstFault : List ℕ → FoldedFault → Type 0
IsFirstFault text fault = (before : List (List ℕ)) × (line : List ℕ) × (after : List (List ℕ))
    × (rows : List WeightedStack)
    × (lines text ≡ before ++ line ∷ after) × AreRowLines before rows × (total_of rows < 2 ^ 63)
    × (0 < length line) × IsLineFault (total_of rows) (length before + 1) line fault

-- why work on the rows of a text has no result: the text's first fault, or memory runs out after its last line
abbrev pub IsWorkFault : List ℕ → FoldedFault → Type 0
IsWorkFault text fault = IsFirstFault text fault
    ⊎ ((fault ≡ NoMemory) × (rows : List WeightedStack) × IsFoldedText text rows)

-- ---- what a call gives

-- what was made fits the rows that the text is folded text of
abbrev pub IsOfText : {T : Type 0} → List ℕ → (List WeightedStack → T → Type 0) → T → Type 0
IsOfText text Fits made = (rows : List WeightedStack) × IsFoldedText text rows × Fits rows made

-- What a call gives that makes something of a text's rows: what fits the rows that the text is folded text of, or a
-- fault. Folded text gives no fault but `NoMemory`, and a text with a first fault gives that one, or `NoMemory`.
pub record GivesOfText {T : Type 0} (text : List ℕ) (IsFault : FoldedFault → Type 0)
    (Fits : List WeightedStack → T → Type 0) (result : Result T FoldedFault) : Type 0 where
  pub read : MatchResult result (IsOfText text Fits) IsFault
  pub accepted : (rows : List WeightedStack) → IsFoldedText text rows
      → MatchResult result (Fits rows) (λ fault. fault ≡ NoMemory)
  pub every_fault : (first : FoldedFault) → first ≢ NoMemory → IsFirstFault text first
      → MatchResult result (λ made. ⊥) (λ fault. (fault ≡ NoMemory) ⊎ (fault ≡ first))

-- the batch of a text's rows, of one value
abbrev pub GivesBatch : List ℕ → Result BatchState FoldedFault → Type 0
GivesBatch text result = GivesOfText text (IsFirstFault text) (λ rows batch. batch ≡ single_batch rows) result

-- what is made of a text's rows by work that memory can still run out for after the last line
abbrev pub GivesOfRows : {T : Type 0} → List ℕ → (List WeightedStack → T → Type 0) → Result T FoldedFault → Type 0
GivesOfRows text Fits result = GivesOfText text (IsWorkFault text) Fits result

-- a row as folded text: its names joined by semicolons, a space, its weight in decimal, a line feed
abbrev pub row_text : WeightedStack → List ℕ
row_text row = join_with_byte 59 row.stack ++ 32 ∷ decimal row.weight ++ 10 ∷ []

-- rows as folded text, each in its place
abbrev pub rows_text : List WeightedStack → List ℕ
rows_text rows = flat_map row_text rows

-- the text has the rows' lines, and is folded text of the rows
pub record IsTextOf (rows : List WeightedStack) (text : List ℕ) : Type 0 where
  pub lines_are : text ≡ rows_text rows
  pub reads_back : IsFoldedText text rows

-- the folded report: each stack of weight above 0 once, with its weight, in the order of stacks
abbrev pub folded_text_of : List WeightedStack → List ℕ
folded_text_of rows = rows_text (rows_of (aggregate_of rows))

-- the text is folded text of the rows of a batch of one value
abbrev pub IsFoldedBatch : List ℕ → BatchState → Type 0
IsFoldedBatch text batch = IsOfText text (λ rows batch. batch ≡ single_batch rows) batch
