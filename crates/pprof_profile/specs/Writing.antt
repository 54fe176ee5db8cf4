-- How the parts of a message are written: varints are as short as can be, and what has its absent value is left out.
use Rattle.std.specs.Prelude.{ℕ, zero, suc, ℤ, Bool, true, false, ◌≡◌, ◌<◌, ◌^◌, ◌++◌, List, [], ◌∷◌, length, map}
use Rattle.std.specs.List.{flat_map, AllByRecursion}
use Rattle.std.specs.Str.{IsUtf8}
use Rattle.std.specs.Int.{w64, cast_unsigned}
use Rattle.pprof_wire.specs.Varints.{varint_of}
use Rattle.pprof_wire.specs.Fields.{varint, content, PlainField, field_bytes_of}

-- The fields, one after the other.
abbrev pub bytes_of_fields : List PlainField → List ℕ
bytes_of_fields fields = flat_map field_bytes_of fields

-- A single number: it is left out where it is 0.
abbrev pub number_fields : ℕ → ℕ → List PlainField
number_fields number zero = []
number_fields number (suc less) = (record { number = number; value = varint (suc less) }) ∷ []

-- An `uint64` as it is, an `int64` as its two's complement, and a `bool` as 0 or 1.
abbrev pub number_of_unsigned : ℕ → ℕ
number_of_unsigned value = value

abbrev pub number_of_signed : ℤ → ℕ
number_of_signed value = cast_unsigned w64 value

abbrev pub number_of_flag : Bool → ℕ
number_of_flag false = 0
number_of_flag true = 1

-- Packed numbers, or a single message: the field is left out where its content is empty.
abbrev pub content_fields : ℕ → List ℕ → List PlainField
content_fields number [] = []
content_fields number (byte ∷ bytes) = (record { number = number; value = content (byte ∷ bytes) }) ∷ []

abbrev pub packed_bytes : List ℕ → List ℕ
packed_bytes numbers = flat_map varint_of numbers

-- Repeated messages, or texts: a field for each, also where its content is empty.
abbrev pub each_field : ℕ → List (List ℕ) → List PlainField
each_field number contents = map (λ bytes. record { number = number; value = content bytes }) contents

-- ---- what numbers of 64 bits, texts and memory can hold

abbrev pub FitsUnsigned : ℕ → Type 0
FitsUnsigned value = value < 2 ^ 64

abbrev pub FitsNumbers : {A : Type 0} → (A → Type 0) → List A → Type 0
FitsNumbers fits items = AllByRecursion fits items

abbrev pub FitsTexts : List (List ℕ) → Type 0
FitsTexts texts = AllByRecursion (λ text. IsUtf8 text × (length text < 2 ^ 64)) texts

abbrev pub FitsEach : {M : Type 0} → (M → Type 0) → (M → List ℕ) → List M → Type 0
FitsEach fits bytes_of items = AllByRecursion (λ item. fits item × (length (bytes_of item) < 2 ^ 64)) items

-- bytes were appended, and what they say fits in them
pub record HasAppended (before after bytes : List ℕ) (Fits : Type 0) : Type 0 where
  pub written : after ≡ before ++ bytes
  pub fits : Fits
