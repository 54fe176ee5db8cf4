-- Varints, by the Protocol Buffers encoding page, "Base 128 Varints".
use Rattle.std.specs.Prelude.{◌≡◌, ℕ, zero, suc, ◌+◌, ◌*◌, ◌/◌, ◌%◌, ◌^◌, nat_lt, if◌then◌else◌, ◌<◌, ◌≤◌, List, []}
use Rattle.std.specs.Prelude.{◌∷◌, ◌++◌, length, ◌↔◌, Option, Result, Ok, Err, IsNone, IfNone, IfSome}
use Rattle.std.specs.Prelude.{IfOk, IfErr, OnOk}
use Rattle.std.specs.List.{AllByRecursion}
use Rattle.pprof_wire.specs.SpelledLists.{AreSpelled, IsAtFront, SplitsInto}
use Rattle.pprof_wire.specs.declared.faults.WireFault.{WireFault}
use Rattle.pprof_wire.specs.declared.faults.WireFault.TheVariants.{Truncated, LongVarint, FieldNumber, Group, WireType}

-- "Each byte in the varint has a continuation bit": it is set in each byte but the last.
abbrev pub IsGroups : List ℕ → Type 0
IsGroups [] = ⊥
IsGroups (byte ∷ []) = byte < 128
IsGroups (byte ∷ next ∷ rest) = (128 ≤ byte) × IsGroups (next ∷ rest)

-- "The lower 7 bits of each byte are a payload", the least significant group first.
abbrev pub number_of : List ℕ → ℕ
number_of [] = 0
number_of (byte ∷ rest) = byte % 128 + 128 * number_of rest

-- The bytes spell the number: one to ten bytes, also more than it needs, of a number of 64 bits.
-- So the tenth byte is 0 or 1.
pub record IsVarint (bytes : List ℕ) (number : ℕ) : Type 0 where
  pub groups : IsGroups bytes
  pub short : length bytes ≤ 10
  pub value : number ≡ number_of bytes
  pub fits : number < 2 ^ 64

-- Each byte says that another follows.
abbrev pub AllContinue : List ℕ → Type 0
AllContinue = AllByRecursion (λ byte. 128 ≤ byte)

-- The bytes end before the last byte of a varint.
pub record IsCutVarint (bytes : List ℕ) : Type 0 where
  pub continued : AllContinue bytes
  pub short : length bytes < 10

-- Nine bytes that each say that another follows, and a tenth that is neither 0 nor 1.
pub record IsLongVarint (bytes : List ℕ) : Type 0 where
  pub front : List ℕ
  pub tenth : ℕ
  pub rest : List ℕ
  pub parts : bytes ≡ front ++ tenth ∷ rest
  pub nine : length front ≡ 9
  pub continued : AllContinue front
  pub large : 1 < tenth

-- Why no varint stands at the front of the bytes.
abbrev pub IsVarintFault : WireFault → List ℕ → Type 0
IsVarintFault Truncated bytes = IsCutVarint bytes
IsVarintFault LongVarint bytes = IsLongVarint bytes
IsVarintFault FieldNumber bytes = ⊥
IsVarintFault Group bytes = ⊥
IsVarintFault WireType bytes = ⊥

-- What is read at the front: a number and how many bytes spell it, or why none stands there.
abbrev pub IsVarintRead : List ℕ → Result (ℕ × ℕ) WireFault → Type 0
IsVarintRead bytes (Ok found) = IsAtFront IsVarint bytes found.1 found.0
IsVarintRead bytes (Err fault) = IsVarintFault fault bytes

-- ---- the numbers of a packed field

-- What a call for the next number gives: nothing at the end, else the number at the front, which is passed, or why
-- none stands there.
pub record IsNextNumber (old : List ℕ) (next : Option (Result ℕ WireFault)) (new : List ℕ) : Type 0 where
  pub end : IsNone next ↔ (old ≡ [])
  pub stays : IfNone next (new ≡ old)
  pub number : IfSome next (λ read. IfOk read (λ number.
      (spelling : List ℕ) × (old ≡ spelling ++ new) × IsVarint spelling number))
  pub fault : IfSome next (λ read. IfErr read (λ fault. (new ≡ old) × IsVarintFault fault old))
  pub shorter : IfSome next (λ read. OnOk read (length new < length old))

-- The bytes are the spellings of the numbers, one after the other.
abbrev pub IsNumberList : List ℕ → List ℕ → Type 0
IsNumberList bytes numbers = AreSpelled IsVarint bytes numbers

-- The bytes are whole numbers, and then a rest that begins with no whole number.
abbrev pub SplitsIntoNumbers : List ℕ → List ℕ → List ℕ → Type 0
SplitsIntoNumbers bytes numbers rest = SplitsInto IsVarint bytes numbers rest

-- ---- the shortest spelling

-- The groups of a number, in `more` bytes at most before the last.
abbrev pub groups_of : ℕ → ℕ → List ℕ
groups_of zero number = number ∷ []
groups_of (suc more) number =
    if nat_lt number 128 then number ∷ [] else (number % 128 + 128) ∷ groups_of more (number / 128)

-- The shortest spelling of a number of 64 bits: no group of zeros at its end.
unfoldable pub varint_of : ℕ → List ℕ
varint_of number = groups_of 9 number
