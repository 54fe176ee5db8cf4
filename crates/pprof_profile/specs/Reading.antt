-- How the message of a list of fields is read (Protocol Buffers encoding page, "Message Structure", "Last One Wins" and
-- "Packed Repeated Fields"), for any message.
use Rattle.std.specs.Prelude.{◌≡◌, ℕ, ◌<◌, ◌++◌, List, [], ◌∷◌, length, map, Bool, true, false, Result, Ok, Err, ◌⊎◌}
use Rattle.std.specs.Prelude.{◌≢◌, IfErr, OnOk}
use Rattle.std.specs.Str.{IsUtf8}
use Rattle.pprof_wire.specs.declared.faults.WireFault.{WireFault}
use Rattle.pprof_wire.specs.declared.faults.WireFault.TheVariants.{WireType}
use Rattle.pprof_wire.specs.Varints.{IsVarintFault, IsNumberList}
use Rattle.pprof_wire.specs.Fields.{FieldValue, varint, fixed64, fixed32, content, PlainField, IsFieldSpelling}
use Rattle.pprof_wire.specs.Fields.{IsFieldList, IsRestFault}
use Rattle.pprof_profile.specs.declared.faults.ProfileFault.{ProfileFault}
use Rattle.pprof_profile.specs.declared.faults.ProfileFault.TheVariants.{Wire, NotUtf8, NoMemory}

-- What a field's value does to what stands in its place: what stood there before, the value, and what stands there
-- after it, or a fault.
abbrev pub Rule : Type 0 → Type 1
Rule A = A → FieldValue → Result A ProfileFault → Type 0

-- What a field does to a message: the message before, the field's number and its value, and the message after it, or a
-- fault.
abbrev pub Table : Type 0 → Type 1
Table M = M → ℕ → FieldValue → Result M ProfileFault → Type 0

-- ---- the fields of a message, in order

-- The fields, one after the other, make the new message of the old one.
abbrev pub Gathers : {M : Type 0} → Table M → M → List PlainField → M → Type 0
Gathers table old [] new = new ≡ old
Gathers {M = M} table old (field ∷ fields) new =
    (next : M) × table old field.number field.value (Ok next) × Gathers table next fields new

-- The bytes are fields, which make the new message of the old one.
pub record Spells {M : Type 0} (table : Table M) (old : M) (bytes : List ℕ) (new : M) : Type 0 where
  pub fields : List PlainField
  pub listed : IsFieldList bytes fields
  pub gathered : Gathers table old fields new

-- The bytes before the rest are fields, which make the new message of the old one.
pub record IsReadSoFar {M : Type 0} (table : Table M) (old : M) (bytes : List ℕ) (new : M)
    (rest : List ℕ) : Type 0 where
  pub front : List ℕ
  pub parts : bytes ≡ front ++ rest
  pub spelled : Spells table old front new

-- The first field of the bytes has the fault.
pub record IsFieldFault {M : Type 0} (table : Table M) (old : M) (bytes : List ℕ)
    (fault : ProfileFault) : Type 0 where
  pub spelling : List ℕ
  pub rest : List ℕ
  pub field : PlainField
  pub parts : bytes ≡ spelling ++ rest
  pub spelled : IsFieldSpelling spelling field
  pub faulty : table old field.number field.value (Err fault)

-- No whole field begins the bytes, and this is why.
pub record IsEndFault (bytes : List ℕ) (fault : ProfileFault) : Type 0 where
  pub wrong : WireFault
  pub is : fault ≡ Wire wrong
  pub faulty : IsRestFault wrong bytes

-- The fields before the rest have no fault, and what begins the rest has this one.
pub record IsFirstFieldFault {M : Type 0} (table : Table M) (old : M) (bytes : List ℕ)
    (fault : ProfileFault) : Type 0 where
  pub so_far : M
  pub rest : List ℕ
  pub read : IsReadSoFar table old bytes so_far rest
  pub faulty : IsFieldFault table so_far rest fault ⊎ IsEndFault rest fault

-- What reading the bytes makes of a message.
abbrev pub Reads : {M : Type 0} → Table M → M → List ℕ → Result M ProfileFault → Type 0
Reads table old bytes (Ok new) = Spells table old bytes new
Reads table old bytes (Err fault) = IsFirstFieldFault table old bytes fault

-- ---- the rules for the value of a field

-- A known field has a wire type that it cannot have.
abbrev pub IsOfOtherType : {A : Type 0} → Result A ProfileFault → Type 0
IsOfOtherType outcome = outcome ≡ Err (Wire WireType)

-- A single number, of which `from` makes what is kept: the last one counts.
abbrev pub SetsNumber : {A : Type 0} → (ℕ → A) → Rule A
SetsNumber from old (varint number) outcome = outcome ≡ Ok (from number)
SetsNumber from old (fixed64 number) outcome = IsOfOtherType outcome
SetsNumber from old (fixed32 number) outcome = IsOfOtherType outcome
SetsNumber from old (content bytes) outcome = IsOfOtherType outcome

-- The numbers before the rest have no fault, and what begins the rest has this one.
pub record IsPackedFault (bytes : List ℕ) (fault : ProfileFault) : Type 0 where
  pub front : List ℕ
  pub rest : List ℕ
  pub numbers : List ℕ
  pub wrong : WireFault
  pub is : fault ≡ Wire wrong
  pub parts : bytes ≡ front ++ rest
  pub listed : IsNumberList front numbers
  pub some : 0 < length rest
  pub faulty : IsVarintFault wrong rest

-- Packed numbers are appended, all of them.
pub record IsUnpacked {A : Type 0} (from : ℕ → A) (old : List A) (bytes : List ℕ) (new : List A) : Type 0 where
  pub numbers : List ℕ
  pub listed : IsNumberList bytes numbers
  pub appended : new ≡ old ++ map from numbers

abbrev pub AddsPacked : {A : Type 0} → (ℕ → A) → List A → List ℕ → Result (List A) ProfileFault → Type 0
AddsPacked from old bytes (Ok new) = IsUnpacked from old bytes new
AddsPacked from old bytes (Err fault) = IsPackedFault bytes fault

-- A repeated number: the one number, or the packed ones, of which `from` makes what is kept.
abbrev pub AddsNumbers : {A : Type 0} → (ℕ → A) → Rule (List A)
AddsNumbers from old (varint number) outcome = outcome ≡ Ok (old ++ from number ∷ [])
AddsNumbers from old (fixed64 number) outcome = IsOfOtherType outcome
AddsNumbers from old (fixed32 number) outcome = IsOfOtherType outcome
AddsNumbers from old (content bytes) outcome = AddsPacked from old bytes outcome

abbrev pub AddsUtf8 : List (List ℕ) → List ℕ → Result (List (List ℕ)) ProfileFault → Type 0
AddsUtf8 old bytes (Ok new) = IsUtf8 bytes × (new ≡ old ++ bytes ∷ [])
AddsUtf8 old bytes (Err fault) = (¬ IsUtf8 bytes) × (fault ≡ NotUtf8)

-- A repeated text: each field has one.
abbrev pub AddsText : Rule (List (List ℕ))
AddsText old (varint number) outcome = IsOfOtherType outcome
AddsText old (fixed64 number) outcome = IsOfOtherType outcome
AddsText old (fixed32 number) outcome = IsOfOtherType outcome
AddsText old (content bytes) outcome = AddsUtf8 old bytes outcome

-- The bytes spell one more item, out of the empty message.
pub record IsAppended {M : Type 0} (table : Table M) (empty : M) (old : List M) (bytes : List ℕ)
    (new : List M) : Type 0 where
  pub item : M
  pub spelled : Spells table empty bytes item
  pub appended : new ≡ old ++ item ∷ []

abbrev pub AddsItem : {M : Type 0} → Table M → M → List M → List ℕ → Result (List M) ProfileFault → Type 0
AddsItem table empty old bytes (Ok new) = IsAppended table empty old bytes new
AddsItem table empty old bytes (Err fault) = IsFirstFieldFault table empty bytes fault

-- A repeated message: each field has one.
abbrev pub AddsMessage : {M : Type 0} → Table M → M → Rule (List M)
AddsMessage table empty old (varint number) outcome = IsOfOtherType outcome
AddsMessage table empty old (fixed64 number) outcome = IsOfOtherType outcome
AddsMessage table empty old (fixed32 number) outcome = IsOfOtherType outcome
AddsMessage table empty old (content bytes) outcome = AddsItem table empty old bytes outcome

-- A single message: the fields of all that it is given are taken together.
abbrev pub MergesMessage : {M : Type 0} → Table M → Rule M
MergesMessage table old (varint number) outcome = IsOfOtherType outcome
MergesMessage table old (fixed64 number) outcome = IsOfOtherType outcome
MergesMessage table old (fixed32 number) outcome = IsOfOtherType outcome
MergesMessage table old (content bytes) outcome = Reads table old bytes outcome

-- ---- which field it is

-- What is said of a row where the number is the row's, and else what is said of the rows after it.
abbrev pub Where : {O : Type 0} → Bool → (O → Type 0) → (O → Type 0) → O → Type 0
Where true row others = row
Where false row others = others

-- A field of unknown number: it is skipped, and nobody looks into its value.
abbrev pub IsSkipped : {M : Type 0} → M → Result M ProfileFault → Type 0
IsSkipped old outcome = outcome ≡ Ok old

-- A call put in place what the rule allows. Where it failed, the rule allows its fault, unless memory ran out.
pub record KeepsRule {M : Type 0} (Allows : Result M ProfileFault → Type 0) (now : M)
    (result : Result (Unit {0}) ProfileFault) : Type 0 where
  pub done : OnOk result (Allows (Ok now))
  pub fault : IfErr result (λ fault. fault ≢ NoMemory → Allows (Err fault))
