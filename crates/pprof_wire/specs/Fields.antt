-- Fields, by the Protocol Buffers encoding page, "Message Structure".
use Rattle.std.specs.Prelude.{◌≡◌, ℕ, ◌+◌, ◌*◌, ◌^◌, ◌<◌, ◌≤◌, ◌⊎◌, List, [], ◌++◌, length, take, Option, None, Some}
use Rattle.std.specs.Prelude.{◌↔◌, Result, Ok, Err, IsNone, IfNone, IfSome, IfOk, IfErr, OnOk}
use Rattle.std.specs.Int.{w32, w64, from_le_bytes, to_le_bytes}
use Rattle.pprof_wire.specs.SpelledLists.{AreSpelled, IsAtFront, SplitsInto}
use Rattle.pprof_wire.specs.Windows.{Window, IsAfter}
use Rattle.pprof_wire.specs.declared.faults.WireFault.{WireFault}
use Rattle.pprof_wire.specs.declared.faults.WireFault.TheVariants.{Truncated, LongVarint, FieldNumber, Group, WireType}
use Rattle.pprof_wire.specs.declared.values.Value.{Value}
use Rattle.pprof_wire.specs.declared.values.Value.TheVariants.{Varint, Fixed64, Fixed32, Bytes}
use Rattle.pprof_wire.specs.declared.values.Field.{Field}
use Rattle.pprof_wire.specs.Varints.{IsVarint, IsCutVarint, IsLongVarint, IsVarintFault, varint_of}

-- A value, without where its bytes lie.
pub data FieldValue : Type 0 where
  varint : (number : ℕ) → FieldValue
  fixed64 : (number : ℕ) → FieldValue
  fixed32 : (number : ℕ) → FieldValue
  content : (bytes : List ℕ) → FieldValue

-- A field, without where its bytes lie.
pub record PlainField : Type 0 where
  pub number : ℕ
  pub value : FieldValue

-- What the program's values and fields stand for.
abbrev pub value_of : Value → FieldValue
value_of (Varint number) = varint number
value_of (Fixed64 number) = fixed64 number
value_of (Fixed32 number) = fixed32 number
value_of (Bytes bytes) = content bytes.now

abbrev pub plain_field : ℕ → Value → PlainField
plain_field number value = record { number = number; value = value_of value }

abbrev pub field_of : Field → PlainField
field_of field = plain_field field.number field.value

-- The answer is the field.
abbrev pub IsField : Option (Result Field WireFault) → PlainField → Type 0
IsField None field = ⊥
IsField (Some (Err fault)) field = ⊥
IsField (Some (Ok read)) field = field_of read ≡ field

-- A field number, by the language guide, "Assigning Field Numbers": from 1 to 2^29 - 1.
pub record IsFieldNumber (number : ℕ) : Type 0 where
  pub least : 1 ≤ number
  pub most : number < 2 ^ 29

-- The wire type of a value, by the table of "Message Structure": VARINT, I64, LEN and I32. (3 and 4 begin and
-- end a group, and 6 and 7 are none.)
abbrev pub wire_type_of : FieldValue → ℕ
wire_type_of (varint number) = 0
wire_type_of (fixed64 number) = 1
wire_type_of (content bytes) = 2
wire_type_of (fixed32 number) = 5

-- "Length-Delimited Records": the length as a varint, and that many bytes.
pub record IsDelimited (bytes content : List ℕ) : Type 0 where
  pub prefix : List ℕ
  pub parts : bytes ≡ prefix ++ content
  pub spelled : IsVarint prefix (length content)

-- The bytes spell the value: a varint; eight or four bytes, the least significant first; or a length and
-- that many bytes.
abbrev pub IsValueSpelling : List ℕ → FieldValue → Type 0
IsValueSpelling bytes (varint number) = IsVarint bytes number
IsValueSpelling bytes (fixed64 number) = (length bytes ≡ 8) × (number ≡ from_le_bytes w64 bytes)
IsValueSpelling bytes (fixed32 number) = (length bytes ≡ 4) × (number ≡ from_le_bytes w32 bytes)
IsValueSpelling bytes (content inner) = IsDelimited bytes inner

-- The bytes spell the field: its tag, `(field_number << 3) | wire_type` as a varint, and then its value.
pub record IsFieldSpelling (bytes : List ℕ) (field : PlainField) : Type 0 where
  pub tag : List ℕ
  pub rest : List ℕ
  pub parts : bytes ≡ tag ++ rest
  pub numbered : IsFieldNumber field.number
  pub tagged : IsVarint tag (8 * field.number + wire_type_of field.value)
  pub valued : IsValueSpelling rest field.value

-- The bytes are the spellings of the fields, one after the other.
abbrev pub IsFieldList : List ℕ → List PlainField → Type 0
IsFieldList bytes fields = AreSpelled IsFieldSpelling bytes fields

-- The bytes are whole fields, and then a rest that begins with no whole field.
abbrev pub SplitsIntoFields : List ℕ → List PlainField → List ℕ → Type 0
SplitsIntoFields bytes fields rest = SplitsInto IsFieldSpelling bytes fields rest

-- ---- why no field stands at the front

-- A tag stands at the front: a number and a wire type, and the bytes after it.
pub record BeginsWithTag (bytes : List ℕ) (number wire_type : ℕ) (rest : List ℕ) : Type 0 where
  pub tag : List ℕ
  pub parts : bytes ≡ tag ++ rest
  pub tagged : IsVarint tag (8 * number + wire_type)
  pub low : wire_type < 8

-- A length stands at the front, and fewer bytes than it says.
pub record IsCutDelimited (bytes : List ℕ) : Type 0 where
  pub prefix : List ℕ
  pub rest : List ℕ
  pub count : ℕ
  pub parts : bytes ≡ prefix ++ rest
  pub spelled : IsVarint prefix count
  pub short : length rest < count

-- The bytes end before a value of the wire type does.
abbrev pub IsCutValue : ℕ → List ℕ → Type 0
IsCutValue wire_type bytes =
    ((((wire_type ≡ 0) ⊎ (wire_type ≡ 2)) × IsCutVarint bytes) ⊎ ((wire_type ≡ 2) × IsCutDelimited bytes))
    ⊎ (((wire_type ≡ 1) × (length bytes < 8)) ⊎ ((wire_type ≡ 5) × (length bytes < 4)))

-- The varint that is the value, or the length of the value, is too long.
abbrev pub IsLongValue : ℕ → List ℕ → Type 0
IsLongValue wire_type bytes = ((wire_type ≡ 0) ⊎ (wire_type ≡ 2)) × IsLongVarint bytes

-- What is wrong after a tag, in this order: the field's number, a group, the wire type, the value.
abbrev pub IsTagFault : WireFault → ℕ → ℕ → List ℕ → Type 0
IsTagFault FieldNumber number wire_type rest = (number ≡ 0) ⊎ (2 ^ 29 ≤ number)
IsTagFault Group number wire_type rest = IsFieldNumber number × ((wire_type ≡ 3) ⊎ (wire_type ≡ 4))
IsTagFault WireType number wire_type rest = IsFieldNumber number × (6 ≤ wire_type)
IsTagFault Truncated number wire_type rest = IsFieldNumber number × IsCutValue wire_type rest
IsTagFault LongVarint number wire_type rest = IsFieldNumber number × IsLongValue wire_type rest

-- Why no field stands at the front: its tag's varint is at fault, or what the tag says.
abbrev pub IsFrontFault : WireFault → List ℕ → Type 0
IsFrontFault fault bytes =
    IsVarintFault fault bytes
    ⊎ ((number : ℕ) × (wire_type : ℕ) × (rest : List ℕ)
    × BeginsWithTag bytes number wire_type rest × IsTagFault fault number wire_type rest)

-- The fault of a rest that begins with no whole field. The empty rest has none.
pub record IsRestFault (fault : WireFault) (bytes : List ℕ) : Type 0 where
  pub some : 0 < length bytes
  pub front : IsFrontFault fault bytes

-- ---- where a field's bytes lie

-- The bytes that the value lends, if it lends any, end at the pointer.
abbrev pub EndsAt : Value → ℕ × ℕ → Type 0
EndsAt (Varint number) pointer = Unit {0}
EndsAt (Fixed64 number) pointer = Unit {0}
EndsAt (Fixed32 number) pointer = Unit {0}
EndsAt (Bytes bytes) pointer = (bytes.ref_ptr.0 ≡ pointer.0) × (bytes.ref_ptr.1 + length bytes.now ≡ pointer.1)

-- The field stands at the front of the old window, and the new window is what is left. The bytes that the
-- field lends are those of the old window, right before the new one.
pub record IsNextField (old : Window) (field : Field) (new : Window) : Type 0 where
  pub spelling : List ℕ
  pub after : IsAfter old spelling new
  pub spelled : IsFieldSpelling spelling (field_of field)
  pub lent : EndsAt field.value new.pointer

-- What a call for the next field gives: nothing at the end, else the field at the front, which is passed, or why none
-- stands there.
pub record IsFieldRead (old : Window) (next : Option (Result Field WireFault)) (new : Window) : Type 0 where
  pub end : IsNone next ↔ (old.bytes ≡ [])
  pub stays : IfNone next (new ≡ old)
  pub field : IfSome next (λ read. IfOk read (λ field. IsNextField old field new))
  pub fault : IfSome next (λ read. IfErr read (λ fault. (new ≡ old) × IsRestFault fault old.bytes))
  pub shorter : IfSome next (λ read. OnOk read (length new.bytes < length old.bytes))

-- A value of the wire type stands at the front of the window, in so many bytes, and what it lends ends there.
pub record IsValueAtFront (window : Window) (wire_type : ℕ) (value : Value) (len : ℕ) : Type 0 where
  pub within : len ≤ length window.bytes
  pub typed : wire_type ≡ wire_type_of (value_of value)
  pub spelled : IsValueSpelling (take len window.bytes) (value_of value)
  pub lent : EndsAt value (window.pointer.0, window.pointer.1 + len)

-- What is read after a tag: a value and how many bytes it takes, or why none of the wire type stands there.
abbrev pub IsValueRead : Window → ℕ → Result (Value × ℕ) WireFault → Type 0
IsValueRead window wire_type (Ok found) = IsValueAtFront window wire_type found.0 found.1
IsValueRead window wire_type (Err fault) =
    (number : ℕ) → IsFieldNumber number → IsTagFault fault number wire_type window.bytes

-- What is read at the front of the window: a field and how many bytes it takes, or why none stands there.
abbrev pub IsFieldAtFront : Window → Result (Field × ℕ) WireFault → Type 0
IsFieldAtFront window (Ok found) =
    IsAtFront IsFieldSpelling window.bytes found.1 (field_of found.0) × (0 < found.1)
    × EndsAt found.0.value (window.pointer.0, window.pointer.1 + found.1)
IsFieldAtFront window (Err fault) = IsFrontFault fault window.bytes

-- ---- the shortest spelling

-- The value, with its varints as short as can be.
abbrev pub value_bytes_of : FieldValue → List ℕ
value_bytes_of (varint number) = varint_of number
value_bytes_of (fixed64 number) = to_le_bytes w64 number
value_bytes_of (fixed32 number) = to_le_bytes w32 number
value_bytes_of (content bytes) = varint_of (length bytes) ++ bytes

-- The field, with its varints as short as can be.
abbrev pub field_bytes_of : PlainField → List ℕ
field_bytes_of field = varint_of (8 * field.number + wire_type_of field.value) ++ value_bytes_of field.value

-- What a value of 64 or 32 bits can be.
abbrev pub FitsValue : FieldValue → Type 0
FitsValue (varint number) = number < 2 ^ 64
FitsValue (fixed64 number) = number < 2 ^ 64
FitsValue (fixed32 number) = number < 2 ^ 32
FitsValue (content bytes) = length bytes < 2 ^ 64
