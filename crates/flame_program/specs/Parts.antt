-- What a bounded read of a whole input takes from a reader, and what a write of a text leaves behind.
use Rattle.std.specs.Prelude.{ℕ, ◌≡◌, ◌+◌, ◌<◌, ◌≤◌, Bool, true, false, List, length, take, Option}
use Rattle.std.specs.Io.KnownBytes.{Consumes, IsAtEnd, Appends}
use Rattle.flame_program.specs.declared.streams.ReadFault.{ReadFault}
use Rattle.flame_program.specs.declared.streams.ReadFault.TheVariants.{Read, TooLong, NoMemory}

-- the input was read to its end, and has at most `limit` bytes
pub record IsWholeInput (limit : ℕ) (unread left : Option (List ℕ)) (input : List ℕ) : Type 0 where
  pub short : length input ≤ limit
  pub taken : Consumes unread left input
  pub at_end : IsAtEnd left

-- One more read: what was read since the start is the input so far. It has grown, or the reader is at its end.
pub record IsReadSoFar (limit : ℕ) (start left : Option (List ℕ)) (old new : List ℕ)
    (is_more : Bool) : Type 0 where
  pub short : length new ≤ limit
  pub taken : Consumes start left new
  pub grown : is_more ≡ true → length old < length new
  pub at_end : is_more ≡ false → IsAtEnd left

-- some bytes were taken, at most `most`
abbrev pub TakesAtMost : ℕ → Option (List ℕ) → Option (List ℕ) → Type 0
TakesAtMost most unread left = (bytes : List ℕ) × (length bytes ≤ most) × Consumes unread left bytes

-- so many bytes were taken
abbrev pub TakesExactly : ℕ → Option (List ℕ) → Option (List ℕ) → Type 0
TakesExactly count unread left = (bytes : List ℕ) × (length bytes ≡ count) × Consumes unread left bytes

-- What a fault leaves of the reader. An input is too long where one byte more than the limit was there, and that byte
-- is the last taken.
abbrev pub LeavesAfterFault : ℕ → Option (List ℕ) → Option (List ℕ) → ReadFault → Type 0
LeavesAfterFault limit unread left Read = TakesAtMost limit unread left
LeavesAfterFault limit unread left TooLong = TakesExactly (limit + 1) unread left
LeavesAfterFault limit unread left NoMemory = TakesAtMost limit unread left

-- a prefix of the text was appended
abbrev pub AppendsBeginning : Option (List ℕ) → Option (List ℕ) → List ℕ → Type 0
AppendsBeginning before after text = (count : ℕ) × (count ≤ length text) × Appends before after (take count text)
