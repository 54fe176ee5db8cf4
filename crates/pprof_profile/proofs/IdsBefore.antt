-- Fields are read onto a sample in the same way where other ids stand before its own.
use Rattle.std.proofs.lemmas.Grind.{common_steps}
use Rattle.std.proofs.Common.{arith, ℕ, Bool, List, [], ◌∷◌, ◌++◌, Err, Ok, Result, ap, append_assoc, false, inl}
use Rattle.std.proofs.Common.{inr, map, sym, true, ◌∙◌, ◌==◌, ◌⊎◌}
use Rattle.pprof_wire.specs.Fields.{FieldValue, PlainField, content, fixed32, fixed64, varint}
use Rattle.pprof_profile.specs.declared.faults.ProfileFault.{ProfileFault}
use Rattle.pprof_profile.specs.declared.messages.Sample.{Sample}
use Rattle.pprof_profile.specs.Forms.{AtFirst, InOthers, Rows, Takes, each, end, parts_of, row, signeds, table_of}
use Rattle.pprof_profile.specs.Forms.{unsigned_of}
use Rattle.pprof_profile.specs.Messages.{label_form, sample_form}
use Rattle.pprof_profile.specs.Reading.{AddsNumbers, Gathers, IsEndFault, IsFieldFault, IsFirstFieldFault, Spells}
use Rattle.pprof_profile.specs.Reading.{Where}
use Rattle.pprof_profile.specs.SampleLists.{with_ids_before}

-- the fields after the ids
abbrev rows_after_ids : Rows Sample
rows_after_ids = row 2 signeds (λ m. m.values) (row 3 (each label_form) (λ m. m.labels) end)

module _ (ids : List ℕ) where
  -- ---- one field

  adds_before : (old new : List ℕ) (value : FieldValue)
      → AddsNumbers unsigned_of old value (Ok new) → AddsNumbers unsigned_of (ids ++ old) value (Ok (ids ++ new))
  adds_before old new (varint number) is = grind (arith, common_steps, append_assoc)
  adds_before old new (fixed64 number) is = grind (arith, common_steps)
  adds_before old new (fixed32 number) is = grind (arith, common_steps)
  adds_before old new (content bytes) is = record {
    numbers = is.numbers;
    listed = is.listed;
    appended = ap (λ (xs : List ℕ). ids ++ xs) is.appended ∙ sym (append_assoc ids old (map unsigned_of is.numbers));
  }

  fault_before : (old : List ℕ) (value : FieldValue) (fault : ProfileFault)
      → AddsNumbers unsigned_of old value (Err fault) → AddsNumbers unsigned_of (ids ++ old) value (Err fault)
  fault_before old (varint number) fault is = grind (arith, common_steps)
  fault_before old (fixed64 number) fault is = is
  fault_before old (fixed32 number) fault is = is
  fault_before old (content bytes) fault is = is

  where_before : {R : Type 0} (Others : R → Result R ProfileFault → Type 0) (first : Bool) (old new : List ℕ)
      (rest others : R) (value : FieldValue)
      → Where first (AtFirst (AddsNumbers unsigned_of) (old, rest) value) (InOthers Others (old, rest))
      (Ok (new, others))
      → Where first (AtFirst (AddsNumbers unsigned_of) (ids ++ old, rest) value) (InOthers Others (ids ++ old, rest))
      (Ok (ids ++ new, others))
  where_before Others true old new rest others value (adds, same) = (adds_before old new value adds, same)
  where_before Others false old new rest others value (is, same) = (is, ap (λ (xs : List ℕ). ids ++ xs) same)

  where_fault : {R : Type 0} (Others : R → Result R ProfileFault → Type 0) (first : Bool) (old : List ℕ) (rest : R)
      (value : FieldValue) (fault : ProfileFault)
      → Where first (AtFirst (AddsNumbers unsigned_of) (old, rest) value) (InOthers Others (old, rest)) (Err fault)
      → Where first (AtFirst (AddsNumbers unsigned_of) (ids ++ old, rest) value) (InOthers Others (ids ++ old, rest))
      (Err fault)
  where_fault Others true old rest value fault is = fault_before old value fault is
  where_fault Others false old rest value fault is = is

  takes_before : (old new : Sample) (number : ℕ) (value : FieldValue)
      → table_of sample_form old number value (Ok new)
      → table_of sample_form (with_ids_before ids old) number value (Ok (with_ids_before ids new))
  takes_before old new number value is =
      where_before (Takes rows_after_ids number value) (number == 1) old.location_ids new.location_ids
      (parts_of rows_after_ids old) (parts_of rows_after_ids new) value is

  -- ---- all fields

  gathers_before : (old new : Sample) (fields : List PlainField) → Gathers (table_of sample_form) old fields new
      → Gathers (table_of sample_form) (with_ids_before ids old) fields (with_ids_before ids new)
  gathers_before old new [] is = ap (with_ids_before ids) is
  gathers_before old new (field ∷ fields) (next, first, others) = (
    with_ids_before ids next,
    takes_before old next field.number field.value first,
    gathers_before next new fields others,
  )

  pub spells_before : (old new : Sample) (bytes : List ℕ) → Spells (table_of sample_form) old bytes new
      → Spells (table_of sample_form) (with_ids_before ids old) bytes (with_ids_before ids new)
  spells_before old new bytes spelled = record {
    fields = spelled.fields;
    listed = spelled.listed;
    gathered = gathers_before old new spelled.fields spelled.gathered;
  }

  faulty_before : (old : Sample) (bytes : List ℕ) (fault : ProfileFault)
      → IsFieldFault (table_of sample_form) old bytes fault
      → IsFieldFault (table_of sample_form) (with_ids_before ids old) bytes fault
  faulty_before old bytes fault is = record {
    spelling = is.spelling;
    rest = is.rest;
    field = is.field;
    parts = is.parts;
    spelled = is.spelled;
    faulty = where_fault (Takes rows_after_ids is.field.number is.field.value) (is.field.number == 1)
        old.location_ids (parts_of rows_after_ids old) is.field.value fault is.faulty;
  }

  pub first_fault_before : (old : Sample) (bytes : List ℕ) (fault : ProfileFault)
      → IsFirstFieldFault (table_of sample_form) old bytes fault
      → IsFirstFieldFault (table_of sample_form) (with_ids_before ids old) bytes fault
  first_fault_before old bytes fault first = record {
    so_far = with_ids_before ids first.so_far;
    rest = first.rest;
    read = record {
      front = first.read.front;
      parts = first.read.parts;
      spelled = spells_before old first.so_far first.read.front first.read.spelled;
    };
    faulty = either first.faulty;
  }
    where
      either : IsFieldFault (table_of sample_form) first.so_far first.rest fault ⊎ IsEndFault first.rest fault
          → IsFieldFault (table_of sample_form) (with_ids_before ids first.so_far) first.rest fault
          ⊎ IsEndFault first.rest fault
      either (inl field) = inl (faulty_before first.so_far first.rest fault field)
      either (inr cut) = inr cut
