-- Laws of whole lists of fields and of numbers.
use Rattle.std.proofs.lemmas.Grind.{common_steps}
use Rattle.std.proofs.Common.{◌≡◌, ℕ, List, [], ◌∷◌, ◌++◌, length, length-append, refl, sym, arith}
use Rattle.std.proofs.lemmas.Nat.{from_le_bytes-to_le_bytes_4, from_le_bytes-to_le_bytes_8}
use Rattle.pprof_wire.specs.declared.faults.WireFault.{WireFault}
use Rattle.pprof_wire.specs.Varints.{IsVarint, IsVarintFault, IsNumberList, SplitsIntoNumbers}
use Rattle.pprof_wire.specs.Varints.{varint_of}
use Rattle.pprof_wire.specs.Fields.{FieldValue, varint, fixed64, fixed32, content, PlainField, IsFieldNumber}
use Rattle.pprof_wire.specs.Fields.{IsValueSpelling, IsFieldSpelling, IsFieldList}
use Rattle.pprof_wire.specs.Fields.{SplitsIntoFields, IsRestFault, value_bytes_of, field_bytes_of, FitsValue}
use Rattle.pprof_wire.specs.SpelledLists.{BeginsWithNone}
use Rattle.pprof_wire.proofs.SpelledLists.{one_spelled, spelled_joined, split_once, split_at_the_end, none_in_nil}
use Rattle.pprof_wire.proofs.SpelledLists.{IsNeverEmpty}
use Rattle.pprof_wire.proofs.VarintLaws.{varint_once, fault_without_number}
use Rattle.pprof_wire.proofs.FieldLaws.{field_once, fault_without_front, low-type}
use Rattle.pprof_wire.proofs.ShortestVarints.{varint_of-spells}

-- ---- fields

pub one_field_listed : (bytes : List ℕ) (field : PlainField)
    → IsFieldSpelling bytes field → IsFieldList bytes (field ∷ [])
one_field_listed bytes field spelled = one_spelled IsFieldSpelling bytes field spelled

pub fields_joined : (a b : List ℕ) (xs ys : List PlainField)
    → IsFieldList a xs → IsFieldList b ys → IsFieldList (a ++ b) (xs ++ ys)
fields_joined a b xs ys left right = spelled_joined IsFieldSpelling a b xs ys left right

pub fault_without_field : (fault : WireFault) (rest : List ℕ) → IsRestFault fault rest
    → BeginsWithNone IsFieldSpelling rest
fault_without_field fault rest faulty = fault_without_front fault rest faulty.front

pub varint-some : IsNeverEmpty IsVarint
varint-some [] number spelled = absurd spelled.groups
varint-some (byte ∷ bytes) number spelled = omega arith

-- a field takes a byte at least
pub field-some : IsNeverEmpty IsFieldSpelling
field-some bytes field spelled = grind (arith, common_steps, length-append, varint-some)

pub nil_without_field : BeginsWithNone IsFieldSpelling []
nil_without_field = none_in_nil IsFieldSpelling field-some

pub fields_split_once : (bytes r s : List ℕ) (xs ys : List PlainField)
    → SplitsIntoFields bytes xs r → SplitsIntoFields bytes ys s → (xs ≡ ys) × (r ≡ s)
fields_split_once = split_once IsFieldSpelling field_once

pub fields_end : (bytes : List ℕ) (fields : List PlainField)
    → IsFieldList bytes fields → SplitsIntoFields bytes fields []
fields_end = split_at_the_end IsFieldSpelling field-some

pub fault_ends : (front rest : List ℕ) (fields : List PlainField) (fault : WireFault)
    → IsFieldList front fields → IsRestFault fault rest
    → SplitsIntoFields (front ++ rest) fields rest
fault_ends front rest fields fault listed faulty =
    record { front = front; parts = refl; listed = listed; ends = fault_without_field fault rest faulty }

-- ---- numbers

pub one_number_listed : (bytes : List ℕ) (number : ℕ) → IsVarint bytes number → IsNumberList bytes (number ∷ [])
one_number_listed bytes number spelled = one_spelled IsVarint bytes number spelled

pub numbers_joined : (a b xs ys : List ℕ) → IsNumberList a xs → IsNumberList b ys → IsNumberList (a ++ b) (xs ++ ys)
numbers_joined a b xs ys left right = spelled_joined IsVarint a b xs ys left right

pub numbers_split_once : (bytes r s xs ys : List ℕ)
    → SplitsIntoNumbers bytes xs r → SplitsIntoNumbers bytes ys s → (xs ≡ ys) × (r ≡ s)
numbers_split_once = split_once IsVarint varint_once

pub numbers_end : (bytes numbers : List ℕ) → IsNumberList bytes numbers → SplitsIntoNumbers bytes numbers []
numbers_end = split_at_the_end IsVarint varint-some

pub number_fault_ends : (front rest numbers : List ℕ) (fault : WireFault)
    → IsNumberList front numbers → IsVarintFault fault rest
    → SplitsIntoNumbers (front ++ rest) numbers rest
number_fault_ends front rest numbers fault listed faulty =
    record { front = front; parts = refl; listed = listed; ends = fault_without_number fault rest faulty }

-- ---- what is written is read back

value_back : (value : FieldValue) → FitsValue value → IsValueSpelling (value_bytes_of value) value
value_back (varint number) fits = varint_of-spells number fits
value_back (fixed64 number) fits = (refl, sym (from_le_bytes-to_le_bytes_8 number fits))
value_back (fixed32 number) fits = (refl, sym (from_le_bytes-to_le_bytes_4 number fits))
value_back (content bytes) fits =
    record { prefix = varint_of (length bytes); parts = refl; spelled = varint_of-spells (length bytes) fits }

pub written_back : (field : PlainField)
    → IsFieldNumber field.number → FitsValue field.value → IsFieldSpelling (field_bytes_of field) field
written_back field numbered fits = grind (arith, common_steps, low-type, varint_of-spells, value_back)
