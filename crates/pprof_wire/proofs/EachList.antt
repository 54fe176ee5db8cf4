-- Each list of bytes has a number or a fault at its front, a field or a fault, and so splits into fields.
use Rattle.std.proofs.lemmas.Grind.{common_steps}
use Rattle.std.proofs.Common.{◌≡◌, ℕ, zero, suc, ◌+◌, ◌/◌, ◌^◌, ◌<◌, ◌≤◌, ◌⊎◌, inl, inr, List, [], bit_and}
use Rattle.std.proofs.Common.{get_or, length, take, drop, refl, sym, arith, length-drop, subst}
use Rattle.std.proofs.lemmas.Bool.{cases_lt}
use Rattle.std.proofs.lemmas.List.{take-append-drop, take_all, take_more, length-take-le}
use Rattle.std.specs.Int.{w32, w64, from_le_bytes}
use Rattle.pprof_wire.specs.declared.faults.WireFault.{WireFault}
use Rattle.pprof_wire.specs.declared.faults.WireFault.TheVariants.{Truncated, LongVarint, FieldNumber, Group, WireType}
use Rattle.pprof_wire.specs.Varints.{number_of, IsVarint, AllContinue, IsVarintFault, SplitsIntoNumbers}
use Rattle.pprof_wire.specs.Fields.{FieldValue, varint, fixed64, fixed32, content, PlainField, IsFieldNumber}
use Rattle.pprof_wire.specs.Fields.{wire_type_of, IsValueSpelling, IsFieldSpelling, SplitsIntoFields, IsTagFault}
use Rattle.pprof_wire.specs.Fields.{IsRestFault}
use Rattle.pprof_wire.proofs.VarintLaws.{number_of-snoc, number_of-below, last_byte, last_of_few, more_continue}
use Rattle.pprof_wire.proofs.VarintLaws.{is_long}
use Rattle.pprof_wire.proofs.VarintLaws.{fault_without_number}
use Rattle.pprof_wire.proofs.FieldLaws.{delimited_read, field_read, number_fault, value_fault}
use Rattle.pprof_wire.proofs.SpelledLists.{BeginsWith, each_list_splits}
use Rattle.pprof_wire.proofs.ListLaws.{fault_without_field, field-some, varint-some}

-- ---- a number or a fault

abbrev HasVarint : List ℕ → Type 0
HasVarint bytes = BeginsWith IsVarint bytes

abbrev HasVarintFault : List ℕ → Type 0
HasVarintFault bytes = (fault : WireFault) × IsVarintFault fault bytes

tenth-fits : (bytes : List ℕ) → 9 < length bytes → get_or bytes 9 0 ≤ 1 → number_of (take 10 bytes) < 2 ^ 64
tenth-fits bytes within small = grind (arith, common_steps, take_more, length-take-le, number_of-snoc, number_of-below)

tenth_byte : (bytes : List ℕ) → 9 < length bytes → AllContinue (take 9 bytes)
    → HasVarint bytes ⊎ HasVarintFault bytes
tenth_byte bytes within all =
    elim (cases_lt 1 (get_or bytes 9 0)) [
      | inl large ↦ inr (LongVarint, is_long bytes within all large)
      | inr tiny ↦ inl (record {
        item = number_of (take 10 bytes);
        len = 10;
        at = last_byte bytes 9 (omega arith) within all (omega arith) (tenth-fits bytes within tiny);
      })
    ]

cut_at : (bytes : List ℕ) (count : ℕ) → count ≤ 9 → length bytes ≤ count → AllContinue (take count bytes)
    → HasVarintFault bytes
cut_at bytes count few end all =
    (Truncated, record { continued = subst AllContinue (take_all count bytes end) all; short = omega arith })

varint_after : (more count : ℕ) (bytes : List ℕ) → count + more ≡ 9 → AllContinue (take count bytes)
    → HasVarint bytes ⊎ HasVarintFault bytes
varint_after zero count bytes whole all = grind (arith, common_steps, cases_lt, tenth_byte, cut_at)
varint_after (suc more) count bytes whole all =
    grind (
      arith,
      common_steps,
      cases_lt,
      last_of_few,
      more_continue,
      cut_at,
      varint_after more (count + 1) bytes (omega arith),
    )

pub varint_or_fault : (bytes : List ℕ) → HasVarint bytes ⊎ HasVarintFault bytes
varint_or_fault bytes = varint_after 9 0 bytes (omega arith) tt

-- ---- a value or a fault

record HasValue (wire_type : ℕ) (bytes : List ℕ) : Type 0 where
  value : FieldValue
  len : ℕ
  within : len ≤ length bytes
  typed : wire_type ≡ wire_type_of value
  spelled : IsValueSpelling (take len bytes) value

record HasTagFault (wire_type : ℕ) (bytes : List ℕ) : Type 0 where
  fault : WireFault
  cause : (number : ℕ) → IsFieldNumber number → IsTagFault fault number wire_type bytes

-- a fault of a varint, as that of a value or its length
varint_fault_of : (fault : WireFault) (wire_type : ℕ) (bytes : List ℕ)
    → (wire_type ≡ 0) ⊎ (wire_type ≡ 2) → IsVarintFault fault bytes → HasTagFault wire_type bytes
varint_fault_of Truncated wire_type bytes typed cause =
    record { fault = Truncated; cause = λ number numbered. (numbered, inl (inl (typed, cause))) }
varint_fault_of LongVarint wire_type bytes typed cause =
    record { fault = LongVarint; cause = λ number numbered. (numbered, (typed, cause)) }
varint_fault_of fault wire_type bytes typed cause = absurd cause

delimited_value : (bytes : List ℕ) (found : HasVarint bytes) → HasValue 2 bytes ⊎ HasTagFault 2 bytes
delimited_value bytes found =
    let rest = drop found.len bytes in elim (cases_lt (length rest) found.item) [
      | inl short ↦ inr (record {
        fault = Truncated;
        cause = λ number numbered. (
          numbered,
          inl (inr (
            refl,
            record {
              prefix = take found.len bytes;
              rest = rest;
              count = found.item;
              parts = sym (take-append-drop found.len bytes);
              spelled = found.at.spelled;
              short = short;
            },
          )),
        );
      })
      | inr enough ↦ inl (record {
        value = content (take found.item rest);
        len = found.len + length (take found.item rest);
        within = omega (arith, found.at.within, length-drop found.len bytes, length-take-le found.item rest enough);
        typed = refl;
        spelled =
            delimited_read bytes found.item found.len rest (take found.item rest) found.at.spelled refl refl enough;
      })
    ]

value_or_fault : (wire_type : ℕ) (bytes : List ℕ) → HasValue wire_type bytes ⊎ HasTagFault wire_type bytes
value_or_fault zero bytes = elim (varint_or_fault bytes) [
  | inl found ↦ inl (record {
    value = varint found.item;
    len = found.len;
    within = found.at.within;
    typed = refl;
    spelled = found.at.spelled;
  })
  | inr wrong ↦ inr (varint_fault_of wrong.0 0 bytes (inl refl) wrong.1)
]
value_or_fault (suc zero) bytes = elim (cases_lt (length bytes) 8) [
  | inl short ↦ inr (record { fault = Truncated; cause = λ number numbered. (numbered, inr (inl (refl, short))) })
  | inr enough ↦ inl (record {
    value = fixed64 (from_le_bytes w64 (take 8 bytes));
    len = 8;
    within = enough;
    typed = refl;
    spelled = (length-take-le 8 bytes enough, refl);
  })
]
value_or_fault (suc (suc zero)) bytes = grind (arith, common_steps, varint_or_fault, varint_fault_of, delimited_value)
value_or_fault (suc (suc (suc zero))) bytes =
    inr (record { fault = Group; cause = λ number numbered. (numbered, inl refl) })
value_or_fault (suc (suc (suc (suc zero)))) bytes =
    inr (record { fault = Group; cause = λ number numbered. (numbered, inr refl) })
value_or_fault (suc (suc (suc (suc (suc zero))))) bytes = elim (cases_lt (length bytes) 4) [
  | inl short ↦ inr (record { fault = Truncated; cause = λ number numbered. (numbered, inr (inr (refl, short))) })
  | inr enough ↦ inl (record {
    value = fixed32 (from_le_bytes w32 (take 4 bytes));
    len = 4;
    within = enough;
    typed = refl;
    spelled = (length-take-le 4 bytes enough, refl);
  })
]
value_or_fault (suc (suc (suc (suc (suc (suc more)))))) bytes =
    inr (record { fault = WireType; cause = λ number numbered. (numbered, omega arith) })

-- ---- a field or a fault

abbrev HasField : List ℕ → Type 0
HasField bytes = BeginsWith IsFieldSpelling bytes

abbrev HasRestFault : List ℕ → Type 0
HasRestFault bytes = (fault : WireFault) × IsRestFault fault bytes

number_cases : (number : ℕ) → IsFieldNumber number ⊎ ((number ≡ 0) ⊎ (2 ^ 29 ≤ number))
number_cases number = grind (arith, common_steps, cases_lt)

tagged_field : (bytes : List ℕ) (found : HasVarint bytes) → 0 < length bytes → IsFieldNumber (found.item / 8)
    → HasField bytes ⊎ HasRestFault bytes
tagged_field bytes found some numbered =
    let rest = drop found.len bytes in elim (value_or_fault (bit_and found.item 7) rest) [
      | inl valued ↦ inl (record {
        item = record { number = found.item / 8; value = valued.value };
        len = found.len + valued.len;
        at = record {
          within = omega (arith, found.at.within, length-drop found.len bytes, valued.within);
          spelled = field_read bytes found.len found.item (found.item / 8) rest
              valued.len valued.value found.at.spelled numbered refl refl valued.typed valued.spelled;
        };
      })
      | inr wrong ↦ inr (
        wrong.fault,
        record {
          some = some;
          front = value_fault wrong.fault bytes found.len found.item
              (found.item / 8) rest found.at.spelled numbered refl refl wrong.cause;
        },
      )
    ]

pub field_or_fault : (bytes : List ℕ) → 0 < length bytes → HasField bytes ⊎ HasRestFault bytes
field_or_fault bytes some = elim (varint_or_fault bytes) [
  | inl found ↦ elim (number_cases (found.item / 8)) [
    | inl numbered ↦ tagged_field bytes found some numbered
    | inr range ↦ inr (
      FieldNumber,
      record {
        some = some;
        front = number_fault FieldNumber bytes found.len found.item found.at.spelled refl range;
      },
    )
  ]
  | inr wrong ↦ inr (wrong.0, record { some = some; front = inl wrong.1 })
]

-- ---- all the fields, and all the numbers

pub each_list_splits_into_fields : (bytes : List ℕ) → (fields : List PlainField) × (rest : List ℕ)
    × SplitsIntoFields bytes fields rest × ((rest ≡ []) ⊎ ((fault : WireFault) × IsRestFault fault rest))
each_list_splits_into_fields =
    each_list_splits IsFieldSpelling HasRestFault field-some
    (λ bytes wrong. fault_without_field wrong.0 bytes wrong.1) field_or_fault

pub each_list_splits_into_numbers : (bytes : List ℕ) → (numbers : List ℕ) × (rest : List ℕ)
    × SplitsIntoNumbers bytes numbers rest × ((rest ≡ []) ⊎ ((fault : WireFault) × IsVarintFault fault rest))
each_list_splits_into_numbers =
    each_list_splits IsVarint HasVarintFault varint-some
    (λ bytes wrong. fault_without_number wrong.0 bytes wrong.1) (λ bytes some. varint_or_fault bytes)
