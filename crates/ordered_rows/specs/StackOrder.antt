-- The order of stacks as an order of their texts.
use Rattle.std.specs.Prelude.{ℕ, ◌≡◌, ◌+◌, ◌*◌, ◌<◌, ◌==◌, List, [], ◌∷◌, if◌then◌else◌}
use Prim.Native.Nat.{zero, suc}
use Rattle.std.specs.declared.cmp.Ordering.{Ordering}
use Rattle.std.specs.Ordering.{nat_cmp}
use Rattle.std.specs.Cmp.Lexicographic.{slice_cmp}
use Rattle.std.specs.List.{AllByRecursion, join_with_byte}
use Rattle.ordered_rows.specs.StackFrames.{frames_of}

-- the text is its frames with a semicolon between each two: no frame was left out as empty
abbrev pub IsJoined : List ℕ → Type 0
IsJoined text = text ≡ join_with_byte 59 (frames_of text)

-- where a byte of a stack text stands: the semicolon, at which a name ends, before each byte that goes on with it
abbrev pub rank_of : ℕ → ℕ
rank_of byte = if byte == 59 then 0 else byte + 1

abbrev pub text_byte_cmp : ℕ → ℕ → Ordering
text_byte_cmp byte other = nat_cmp (rank_of byte) (rank_of other)

-- Stack texts by their bytes, the semicolon lowest. Those without empty frames are then in the order of their stacks.
abbrev pub stack_text_cmp : List ℕ → List ℕ → Ordering
stack_text_cmp = slice_cmp text_byte_cmp

-- where the first bytes of a text stand, so many: the end of a text, and what is after it, before each byte
abbrev pub digits_of : ℕ → List ℕ → List ℕ
digits_of zero text = []
digits_of (suc count) [] = 0 ∷ digits_of count []
digits_of (suc count) (byte ∷ text) = (rank_of byte + 1) ∷ digits_of count text

abbrev pub AreDigits : List ℕ → Type 0
AreDigits digits = AllByRecursion (λ (digit : ℕ). digit < 512) digits

-- the number that digits write after those of another number
abbrev pub with_digits : ℕ → List ℕ → ℕ
with_digits high [] = high
with_digits high (digit ∷ digits) = with_digits (high * 512 + digit) digits

-- the first seven bytes of a text as one number
abbrev pub front_of : List ℕ → ℕ
front_of text = with_digits 0 (digits_of 7 text)

-- the number is that of a text's first bytes, which are digits
pub record IsFront (text : List ℕ) (front : ℕ) : Type 0 where
  pub front_is : front ≡ front_of text
  pub digits : AreDigits (digits_of 7 text)
