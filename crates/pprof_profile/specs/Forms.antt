-- Messages as data: a row for each field. From these rows follows what a field does to a message, what all fields make
-- of it, and how it is written.
use Rattle.std.specs.Prelude.{◌≡◌, ℕ, ℤ, Bool, not, ◌==◌, ◌<◌, ◌^◌, ◌++◌, List, [], length, map, Result, Ok}
use Rattle.std.specs.Prelude.{Err, ⊤}
use Rattle.std.specs.Int.{w64, cast_signed}
use Rattle.std.specs.Int.RustNames.{FitsSigned}
use Rattle.pprof_wire.specs.Fields.{FieldValue, PlainField}
use Rattle.pprof_profile.specs.declared.faults.ProfileFault.{ProfileFault}
use Rattle.pprof_profile.specs.Reading.{Rule, Table, SetsNumber, AddsNumbers, AddsText, AddsMessage, MergesMessage}
use Rattle.pprof_profile.specs.Reading.{Where, IsSkipped}
use Rattle.pprof_profile.specs.AllValues.{values_at, IsLast, AreAllNumbers, AreAllTexts, AreAllMessages, IsOneMessage}
use Rattle.pprof_profile.specs.Writing.{bytes_of_fields, number_fields, content_fields, each_field, packed_bytes}
use Rattle.pprof_profile.specs.Writing.{number_of_unsigned, number_of_signed, number_of_flag, FitsUnsigned}
use Rattle.pprof_profile.specs.Writing.{FitsNumbers, FitsTexts, FitsEach}

-- What a kind of field is: the part of a message without such a field, what one value does to the part, what all values
-- make of it, the fields that are written of it, and which parts can be written.
pub record Kind (A : Type 0) : Type 1 where
  pub absent : A
  pub rule : Rule A
  pub IsMade : List FieldValue → A → Type 0
  pub written : ℕ → A → List PlainField
  pub Fits : A → Type 0

-- The fields of a message: the number of each, its kind, and the part of the message that it is. Numbers rise.
pub data Rows (M : Type 0) : Type 1 where
  end : Rows M
  row : {A : Type 0} → ℕ → Kind A → (M → A) → Rows M → Rows M

-- All parts of a message, in the order of its rows.
abbrev pub Parts : {M : Type 0} → Rows M → Type 0
Parts end = ⊤
Parts (row {A = A} number kind part rows) = A × Parts rows

abbrev pub parts_of : {M : Type 0} (rows : Rows M) → M → Parts rows
parts_of end item = tt
parts_of (row number kind part rows) item = (part item, parts_of rows item)

-- what makes an N of all parts, given one after the other
abbrev pub Maker : {M : Type 0} → Type 0 → Rows M → Type 0
Maker N end = N
Maker N (row {A = A} number kind part rows) = A → Maker N rows

abbrev pub made : {M N : Type 0} (rows : Rows M) → Maker N rows → Parts rows → N
made end maker parts = maker
made (row number kind part rows) maker parts = made rows (maker parts.0) parts.1

-- A message's rows, and the message of its parts.
pub record Form (M : Type 0) : Type 1 where
  pub rows : Rows M
  pub maker : Maker M rows

abbrev pub item_of : {M : Type 0} (form : Form M) → Parts form.rows → M
item_of form parts = made form.rows form.maker parts

-- ---- the message without fields

abbrev pub absent_parts : {M : Type 0} (rows : Rows M) → Parts rows
absent_parts end = tt
absent_parts (row number kind part rows) = (kind.absent, absent_parts rows)

abbrev pub empty_of : {M : Type 0} → Form M → M
empty_of form = item_of form (absent_parts form.rows)

-- ---- what a field does to a message

-- The first part changes by the rule, and the others stay.
abbrev pub AtFirst : {A R : Type 0} → Rule A → (A × R) → FieldValue → Result (A × R) ProfileFault → Type 0
AtFirst rule old value (Ok new) = rule old.0 value (Ok new.0) × (new.1 ≡ old.1)
AtFirst rule old value (Err fault) = rule old.0 value (Err fault)

-- The first part stays, and this is said of the others.
abbrev pub InOthers : {A R : Type 0} → (R → Result R ProfileFault → Type 0) → (A × R) → Result (A × R) ProfileFault
    → Type 0
InOthers Is old (Ok new) = Is old.1 (Ok new.1) × (new.0 ≡ old.0)
InOthers Is old (Err fault) = Is old.1 (Err fault)

-- The part of the field's number changes by the rule of its kind. A field of another number is skipped, and nobody
-- looks into its value.
abbrev pub Takes : {M : Type 0} (rows : Rows M) → ℕ → FieldValue → Parts rows → Result (Parts rows) ProfileFault
    → Type 0
Takes end number value old outcome = IsSkipped old outcome
Takes (row at kind part rows) number value old outcome =
    Where (number == at) (AtFirst kind.rule old value) (InOthers (Takes rows number value) old) outcome

abbrev pub table_of : {M : Type 0} → Form M → Table M
table_of form old number value (Ok new) =
    Takes form.rows number value (parts_of form.rows old) (Ok (parts_of form.rows new))
table_of form old number value (Err fault) = Takes form.rows number value (parts_of form.rows old) (Err fault)

-- ---- what all fields of a message make

abbrev pub AreMade : {M : Type 0} (rows : Rows M) → List PlainField → Parts rows → Type 0
AreMade end fields parts = ⊤
AreMade (row number kind part rows) fields parts =
    kind.IsMade (values_at number fields) parts.0 × AreMade rows fields parts.1

abbrev pub IsMadeOf : {M : Type 0} → Form M → List PlainField → M → Type 0
IsMadeOf form fields item = AreMade form.rows fields (parts_of form.rows item)

-- ---- how a message is written

-- the fields of the parts after these fields
abbrev pub written_after : {M : Type 0} (rows : Rows M) → List PlainField → Parts rows → List PlainField
written_after end before parts = before
written_after (row number kind part rows) before parts =
    written_after rows (before ++ kind.written number parts.0) parts.1

abbrev pub fields_of : {M : Type 0} → Form M → M → List PlainField
fields_of form item = written_after form.rows [] (parts_of form.rows item)

abbrev pub bytes_of : {M : Type 0} → Form M → M → List ℕ
bytes_of form item = bytes_of_fields (fields_of form item)

abbrev pub PartsFit : {M : Type 0} (rows : Rows M) → Parts rows → Type 0
PartsFit end parts = ⊤
PartsFit (row number kind part rows) parts = kind.Fits parts.0 × PartsFit rows parts.1

-- Its numbers are of 64 bits, its texts are UTF-8, and lengths are below 2^64.
abbrev pub Fits : {M : Type 0} → Form M → M → Type 0
Fits form item = PartsFit form.rows (parts_of form.rows item)

-- ---- the kinds of fields

-- Of the number of a varint: an `uint64` is the number itself, an `int64` its two's complement, and a `bool` is true
-- where the number is not 0.
abbrev pub unsigned_of : ℕ → ℕ
unsigned_of number = number

abbrev pub signed_of : ℕ → ℤ
signed_of number = cast_signed w64 number

abbrev pub flag_of : ℕ → Bool
flag_of number = not (number == 0)

-- A single number: that of 0 where there is none.
abbrev pub number_kind : {A : Type 0} → (ℕ → A) → (A → ℕ) → (A → Type 0) → Kind A
number_kind from to fits = record {
  absent = from 0;
  rule = SetsNumber from;
  IsMade = IsLast from;
  written = λ number value. number_fields number (to value);
  Fits = fits;
}

abbrev pub unsigned : Kind ℕ
unsigned = number_kind unsigned_of number_of_unsigned FitsUnsigned

abbrev pub signed : Kind ℤ
signed = number_kind signed_of number_of_signed (FitsSigned w64)

abbrev pub flag : Kind Bool
flag = number_kind flag_of number_of_flag (λ value. ⊤)

-- Repeated numbers, which are written packed.
abbrev pub numbers_kind : {A : Type 0} → (ℕ → A) → (A → ℕ) → (A → Type 0) → Kind (List A)
numbers_kind from to fits = record {
  absent = [];
  rule = AddsNumbers from;
  IsMade = AreAllNumbers from;
  written = λ number values. content_fields number (packed_bytes (map to values));
  Fits = λ values. FitsNumbers fits values × (length (packed_bytes (map to values)) < 2 ^ 64);
}

abbrev pub unsigneds : Kind (List ℕ)
unsigneds = numbers_kind unsigned_of number_of_unsigned FitsUnsigned

abbrev pub signeds : Kind (List ℤ)
signeds = numbers_kind signed_of number_of_signed (FitsSigned w64)

abbrev pub texts : Kind (List (List ℕ))
texts = record {
  absent = [];
  rule = AddsText;
  IsMade = AreAllTexts;
  written = each_field;
  Fits = FitsTexts;
}

-- Repeated messages.
abbrev pub each : {M : Type 0} → Form M → Kind (List M)
each form = record {
  absent = [];
  rule = AddsMessage (table_of form) (empty_of form);
  IsMade = AreAllMessages (IsMadeOf form);
  written = λ number items. each_field number (map (bytes_of form) items);
  Fits = FitsEach (Fits form) (bytes_of form);
}

-- A single message.
abbrev pub one : {M : Type 0} → Form M → Kind M
one form = record {
  absent = empty_of form;
  rule = MergesMessage (table_of form);
  IsMade = IsOneMessage (IsMadeOf form);
  written = λ number item. content_fields number (bytes_of form item);
  Fits = λ item. Fits form item × (length (bytes_of form item) < 2 ^ 64);
}
