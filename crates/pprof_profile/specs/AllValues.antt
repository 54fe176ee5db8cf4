-- What a part of a message is, out of all the fields of its number, wherever they stand (Protocol Buffers encoding
-- page, "Last One Wins", "Packed Repeated Fields" and "Field Order").
use Rattle.std.specs.Prelude.{◌≡◌, ℕ, ◌==◌, cond, List, [], ◌∷◌, map}
use Rattle.std.specs.List.{AllByRecursion, flat_map}
use Rattle.std.specs.Str.{IsUtf8}
use Rattle.pprof_wire.specs.Varints.{IsNumberList}
use Rattle.pprof_wire.specs.Fields.{FieldValue, varint, fixed64, fixed32, content, PlainField, IsFieldList}

-- the values of the fields of a number, in order
abbrev pub values_at : ℕ → List PlainField → List FieldValue
values_at number [] = []
values_at number (field ∷ fields) =
    cond (field.number == number) (field.value ∷ values_at number fields) (values_at number fields)

-- each of the one list with the one of the other that stands at its place
abbrev pub ArePaired : {A B : Type 0} → (A → B → Type 0) → List A → List B → Type 0
ArePaired Is [] items = items ≡ []
ArePaired Is (part ∷ parts) [] = ⊥
ArePaired Is (part ∷ parts) (item ∷ items) = Is part item × ArePaired Is parts items

-- ---- what the values of one number make

-- the last number, or the one before them where there is none
abbrev pub last_or : ℕ → List ℕ → ℕ
last_or before [] = before
last_or before (number ∷ numbers) = last_or number numbers

-- A single number: it is that of the last value, and that of 0 where there is no value.
pub record IsLast {A : Type 0} (from : ℕ → A) (values : List FieldValue) (item : A) : Type 0 where
  pub numbers : List ℕ
  pub varints : values ≡ map varint numbers
  pub last : item ≡ from (last_or 0 numbers)

-- the numbers of one value: the number itself, or the packed ones
abbrev pub AreNumbersOf : FieldValue → List ℕ → Type 0
AreNumbersOf (varint number) numbers = numbers ≡ number ∷ []
AreNumbersOf (fixed64 number) numbers = ⊥
AreNumbersOf (fixed32 number) numbers = ⊥
AreNumbersOf (content bytes) numbers = IsNumberList bytes numbers

-- A repeated number: all the numbers of all the values, in order.
pub record AreAllNumbers {A : Type 0} (from : ℕ → A) (values : List FieldValue) (items : List A) : Type 0 where
  pub numbers : List (List ℕ)
  pub numbered : ArePaired AreNumbersOf values numbers
  pub all : items ≡ map from (flat_map (λ part. part) numbers)

-- A repeated text: each value's bytes.
pub record AreAllTexts (values : List FieldValue) (texts : List (List ℕ)) : Type 0 where
  pub contents : values ≡ map content texts
  pub utf8 : AllByRecursion IsUtf8 texts

-- the fields of one value
abbrev pub AreFieldsOf : FieldValue → List PlainField → Type 0
AreFieldsOf (varint number) fields = ⊥
AreFieldsOf (fixed64 number) fields = ⊥
AreFieldsOf (fixed32 number) fields = ⊥
AreFieldsOf (content bytes) fields = IsFieldList bytes fields

-- A repeated message: one by the fields of each value, in order.
pub record AreAllMessages {M : Type 0} (Is : List PlainField → M → Type 0) (values : List FieldValue)
    (items : List M) : Type 0 where
  pub lists : List (List PlainField)
  pub listed : ArePaired AreFieldsOf values lists
  pub each : ArePaired Is lists items

-- A single message: that of the fields of all the values together, one value's after the other's.
pub record IsOneMessage {M : Type 0} (Is : List PlainField → M → Type 0) (values : List FieldValue)
    (item : M) : Type 0 where
  pub lists : List (List PlainField)
  pub listed : ArePaired AreFieldsOf values lists
  pub together : Is (flat_map (λ part. part) lists) item
