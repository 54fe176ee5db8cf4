-- Worked examples of fields that stand several times, computed by the definitions. Each is checked by evaluating it.
use Rattle.std.proofs.lemmas.Grind.{common_steps}
use Rattle.std.proofs.Common.{◌≡◌, ℕ, pos, List, [], ◌∷◌, refl, arith, rules}
use Rattle.pprof_wire.specs.Varints.{IsNumberList, varint_of}
use Rattle.pprof_wire.specs.Fields.{varint, content, PlainField, IsFieldList}
use Rattle.pprof_wire.proofs.ListLaws.{one_field_listed, one_number_listed, written_back}
use Rattle.pprof_wire.proofs.ShortestVarints.{varint_of-spells}
use Rattle.pprof_profile.specs.declared.messages.ValueType.{ValueType}
use Rattle.pprof_profile.specs.declared.messages.Sample.{Sample}
use Rattle.pprof_profile.specs.Reading.{Gathers, Spells}
use Rattle.pprof_profile.specs.Messages.{no_value_type, value_type_form, no_sample, sample_form, no_draft, draft_form}
use Rattle.pprof_profile.specs.AllValues.{values_at, last_or, IsOneMessage, AreAllMessages}
use Rattle.pprof_profile.specs.Forms.{signed_of, table_of, IsMadeOf}

abbrev number_field : ℕ → ℕ → PlainField
number_field number value = record { number = number; value = varint value }

abbrev content_field : ℕ → List ℕ → PlainField
content_field number bytes = record { number = number; value = content bytes }

-- ---- a period of 5, a time, and then a period of 7: the last one counts

abbrev two_periods : List PlainField
two_periods = number_field 12 5 ∷ number_field 9 1 ∷ number_field 12 7 ∷ []

periods_in_order : values_at 12 two_periods ≡ varint 5 ∷ varint 7 ∷ []
periods_in_order = refl

last_period : signed_of (last_or 0 (5 ∷ 7 ∷ [])) ≡ pos 7
last_period = refl

no_period : signed_of (last_or 0 []) ≡ pos 0
no_period = refl

last_period_wins : Gathers (table_of draft_form) no_draft two_periods
    (record no_draft { time_nanos = pos 1; period = pos 7 })
last_period_wins = (
  record no_draft { period = pos 5 },
  search rules,
  (
    record no_draft { time_nanos = pos 1; period = pos 5 },
    search rules,
    (record no_draft { time_nanos = pos 1; period = pos 7 }, search rules, refl),
  ),
)

-- ---- a period type in two pieces, the kind in one and the unit in the other: both are there

abbrev kind_piece : List PlainField
kind_piece = number_field 1 1 ∷ []

abbrev unit_piece : List PlainField
unit_piece = number_field 2 2 ∷ []

abbrev two_pieces : List PlainField
two_pieces = content_field 11 (8 ∷ 1 ∷ []) ∷ content_field 11 (16 ∷ 2 ∷ []) ∷ []

abbrev kind_alone : ValueType
kind_alone = record { kind = pos 1; unit = pos 0 }

abbrev kind_and_unit : ValueType
kind_and_unit = record { kind = pos 1; unit = pos 2 }

kind_listed : IsFieldList (8 ∷ 1 ∷ []) kind_piece
unfolding varint_of
kind_listed = grind (arith, common_steps, one_field_listed, written_back)

unit_listed : IsFieldList (16 ∷ 2 ∷ []) unit_piece
unfolding varint_of
unit_listed = grind (arith, common_steps, one_field_listed, written_back)

kind_spelled : Spells (table_of value_type_form) no_value_type (8 ∷ 1 ∷ []) kind_alone
kind_spelled = record { fields = kind_piece; listed = kind_listed; gathered = (kind_alone, (refl, refl), refl) }

unit_spelled_after : Spells (table_of value_type_form) kind_alone (16 ∷ 2 ∷ []) kind_and_unit
unit_spelled_after =
    record { fields = unit_piece; listed = unit_listed; gathered = (kind_and_unit, search rules, refl) }

pieces_are_taken_together : Gathers (table_of draft_form) no_draft two_pieces
    (record no_draft { period_type = kind_and_unit })
pieces_are_taken_together = (
  record no_draft { period_type = kind_alone },
  search (rules, kind_spelled),
  (record no_draft { period_type = kind_and_unit }, search (rules, unit_spelled_after), refl),
)

-- the same, by the whole list
type_of_both_pieces : IsOneMessage (IsMadeOf value_type_form) (values_at 11 two_pieces) kind_and_unit
type_of_both_pieces =
    record {
      lists = kind_piece ∷ unit_piece ∷ [];
      listed = (kind_listed, (unit_listed, refl));
      together = (
        record { numbers = 1 ∷ []; varints = refl; last = refl },
        (record { numbers = 2 ∷ []; varints = refl; last = refl }, tt),
      );
    }

-- ---- two samples, of the value 7 and of the value 3, with the period between them: both are there, in order

abbrev two_samples : List PlainField
two_samples = content_field 2 (18 ∷ 1 ∷ 7 ∷ []) ∷ number_field 12 5 ∷ content_field 2 (16 ∷ 3 ∷ []) ∷ []

-- the one has its value packed, the other alone
abbrev packed_value : List PlainField
packed_value = content_field 2 (7 ∷ []) ∷ []

abbrev single_value : List PlainField
single_value = number_field 2 3 ∷ []

abbrev seven : Sample
seven = record no_sample { values = pos 7 ∷ [] }

abbrev three : Sample
three = record no_sample { values = pos 3 ∷ [] }

packed_listed : IsFieldList (18 ∷ 1 ∷ 7 ∷ []) packed_value
unfolding varint_of
packed_listed = grind (arith, common_steps, one_field_listed, written_back)

single_listed : IsFieldList (16 ∷ 3 ∷ []) single_value
unfolding varint_of
single_listed = grind (arith, common_steps, one_field_listed, written_back)

seven_listed : IsNumberList (7 ∷ []) (7 ∷ [])
unfolding varint_of
seven_listed = one_number_listed (7 ∷ []) 7 (varint_of-spells 7 (omega arith))

seven_spelled : Spells (table_of sample_form) no_sample (18 ∷ 1 ∷ 7 ∷ []) seven
seven_spelled =
    record {
      fields = packed_value;
      listed = packed_listed;
      gathered = (seven, ((record { numbers = 7 ∷ []; listed = seven_listed; appended = refl }, refl), refl), refl);
    }

three_spelled : Spells (table_of sample_form) no_sample (16 ∷ 3 ∷ []) three
three_spelled = record { fields = single_value; listed = single_listed; gathered = (three, ((refl, refl), refl), refl) }

samples_in_order : Gathers (table_of draft_form) no_draft two_samples
    (record no_draft { samples = seven ∷ three ∷ []; period = pos 5 })
samples_in_order = (
  record no_draft { samples = seven ∷ [] },
  ((record { item = seven; spelled = seven_spelled; appended = refl }, refl), refl),
  (
    record no_draft { samples = seven ∷ []; period = pos 5 },
    search rules,
    (
      record no_draft { samples = seven ∷ three ∷ []; period = pos 5 },
      ((record { item = three; spelled = three_spelled; appended = refl }, refl), refl),
      refl,
    ),
  ),
)

-- the same, by the whole list
samples_of_both_fields : AreAllMessages (IsMadeOf sample_form) (values_at 2 two_samples) (seven ∷ three ∷ [])
samples_of_both_fields =
    record {
      lists = packed_value ∷ single_value ∷ [];
      listed = (packed_listed, (single_listed, refl));
      each = (
        (
          record { numbers = []; numbered = refl; all = refl },
          (
            record { numbers = (7 ∷ []) ∷ []; numbered = (seven_listed, refl); all = refl },
            (record { lists = []; listed = refl; each = refl }, tt),
          ),
        ),
        (
          (
            record { numbers = []; numbered = refl; all = refl },
            (
              record { numbers = (3 ∷ []) ∷ []; numbered = (refl, refl); all = refl },
              (record { lists = []; listed = refl; each = refl }, tt),
            ),
          ),
          refl,
        ),
      );
    }
