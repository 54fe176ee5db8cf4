-- Laws of fields as lists of bytes.
use Rattle.std.proofs.lemmas.Grind.{common_steps}
use Rattle.std.proofs.Common.{◌≡◌, ℕ, ◌+◌, ◌*◌, ◌/◌, ◌^◌, ◌<◌, ◌≤◌, ◌⊎◌, List, [], ◌∷◌, ◌++◌, length, take, drop, refl}
use Rattle.std.proofs.Common.{sym, ap, ◌∙◌, arith, length-append, subst, inl, inr, append_assoc, bit_and, lit<}
use Rattle.std.proofs.lemmas.List.{length-take-le, take-append-drop}
use Rattle.std.proofs.lemmas.Nat.{and_mask}
use Rattle.std.proofs.Math.Seq.{take-add}
use Rattle.pprof_wire.specs.declared.faults.WireFault.{WireFault}
use Rattle.pprof_wire.specs.declared.faults.WireFault.TheVariants.{Truncated, LongVarint, FieldNumber, Group, WireType}
use Rattle.pprof_wire.specs.Varints.{IsVarint, IsVarintFault}
use Rattle.pprof_wire.specs.SpelledLists.{BeginsWithNone}
use Rattle.pprof_wire.proofs.VarintLaws.{varint_once, fault_without_number, varint_fault_once, cut_not_long}
use Rattle.pprof_wire.specs.Fields.{FieldValue, varint, fixed64, fixed32, content, PlainField, IsDelimited}
use Rattle.pprof_wire.specs.Fields.{IsCutDelimited, IsFieldNumber, wire_type_of, IsValueSpelling, IsFieldSpelling}
use Rattle.pprof_wire.specs.Fields.{BeginsWithTag, IsCutValue, IsLongValue, IsTagFault, IsFrontFault}

-- ---- what was read

pub delimited_read : (bytes : List ℕ) (count prefix : ℕ) (rest inner : List ℕ)
    → IsVarint (take prefix bytes) count → rest ≡ drop prefix bytes
    → inner ≡ take count rest → count ≤ length rest → IsDelimited (take (prefix + length inner) bytes) inner
delimited_read bytes count prefix rest inner spelled rest-is inner-is enough =
    grind (arith, common_steps, length-take-le, take-add)

tag-parts : (tag number : ℕ) → number ≡ tag / 8 → tag ≡ 8 * number + bit_and tag 7
tag-parts tag number e = rw (and_mask tag 3) (omega arith)

tag-low : (tag : ℕ) → bit_and tag 7 < 8
tag-low tag = rw (and_mask tag 3) (omega arith)

begins : (bytes : List ℕ) (len tag number : ℕ)
    → IsVarint (take len bytes) tag → number ≡ tag / 8 → BeginsWithTag bytes number (bit_and tag 7) (drop len bytes)
begins bytes len tag number spelled e = grind (arith, common_steps, take-append-drop, tag-parts, tag-low)

pub number_fault : (fault : WireFault) (bytes : List ℕ) (len tag : ℕ)
    → IsVarint (take len bytes) tag → fault ≡ FieldNumber
    → (tag / 8 ≡ 0) ⊎ (2 ^ 29 ≤ tag / 8) → IsFrontFault fault bytes
number_fault fault bytes len tag spelled fault-is range =
    rw fault-is (inr (tag / 8, bit_and tag 7, drop len bytes, begins bytes len tag (tag / 8) spelled refl, range))

pub value_fault : (fault : WireFault) (bytes : List ℕ) (len tag number : ℕ) (rest : List ℕ)
    → IsVarint (take len bytes) tag → IsFieldNumber number → number ≡ tag / 8
    → rest ≡ drop len bytes
    → ((n : ℕ) → IsFieldNumber n → IsTagFault fault n (bit_and tag 7) rest) → IsFrontFault fault bytes
value_fault fault bytes len tag number rest spelled numbered e rest-is faulty =
    inr (
      number,
      bit_and tag 7,
      drop len bytes,
      begins bytes len tag number spelled e,
      subst (IsTagFault fault number (bit_and tag 7)) rest-is (faulty number numbered),
    )

pub field_read : (bytes : List ℕ) (len tag number : ℕ) (rest : List ℕ) (more : ℕ) (value : FieldValue)
    → IsVarint (take len bytes) tag → IsFieldNumber number
    → number ≡ tag / 8
    → rest ≡ drop len bytes → bit_and tag 7 ≡ wire_type_of value → IsValueSpelling (take more rest) value
    → IsFieldSpelling (take (len + more) bytes) (record { number = number; value = value })
field_read bytes len tag number rest more value spelled numbered e rest-is typed valued =
    grind (arith, common_steps, take-add, tag-parts)

-- ---- no field's spelling begins another

same_front : (a b x y : List ℕ) → length a ≡ length b → a ++ x ≡ b ++ y → (a ≡ b) × (x ≡ y)
same_front [] [] x y len same = (refl, same)
same_front [] (q ∷ b) x y len same = absurd cc
same_front (p ∷ a) [] x y len same = absurd cc
same_front (p ∷ a) (q ∷ b) x y len same = grind (arith, common_steps, same_front a b x y)

delimited_once : (a b x y c d : List ℕ)
    → IsDelimited a c → IsDelimited b d → a ++ x ≡ b ++ y → (a ≡ b) × (x ≡ y) × (c ≡ d)
delimited_once a b x y c d left right same = grind (arith, common_steps, varint_once, same_front)

value_once : (v w : FieldValue) (a b x y : List ℕ)
    → wire_type_of v ≡ wire_type_of w → IsValueSpelling a v → IsValueSpelling b w → a ++ x ≡ b ++ y
    → (a ≡ b) × (x ≡ y) × (v ≡ w)
value_once (varint m) (varint n) a b x y typed left right same =
    let once = varint_once a b x y m n left right same in (once.0, once.1, ap varint once.2)
value_once (fixed64 m) (fixed64 n) a b x y typed left right same = grind (arith, common_steps, same_front)
value_once (fixed32 m) (fixed32 n) a b x y typed left right same = grind (arith, common_steps, same_front)
value_once (content c) (content d) a b x y typed left right same =
    let once = delimited_once a b x y c d left right same in (once.0, once.1, ap content once.2)
value_once v w a b x y typed left right same = absurd (omega arith)

pub low-type : (v : FieldValue) → wire_type_of v < 8
low-type (varint n) = lit< tt
low-type (fixed64 n) = lit< tt
low-type (fixed32 n) = lit< tt
low-type (content c) = lit< tt

-- a tag's number and wire type
tag_once : (m n s t : ℕ) → s < 8 → t < 8 → 8 * m + s ≡ 8 * n + t → (m ≡ n) × (s ≡ t)
tag_once m n s t p q e = (omega arith, omega arith)

-- a field begins with its tag
tag_of_field : (bytes spelling after : List ℕ) (field : PlainField)
    → (spelled : IsFieldSpelling spelling field) → bytes ≡ spelling ++ after
    → BeginsWithTag bytes field.number (wire_type_of field.value) (spelled.rest ++ after)
tag_of_field bytes spelling after field spelled same = grind (arith, common_steps, low-type)

tag_at_once : (bytes rest other : List ℕ) (m s n t : ℕ)
    → (one : BeginsWithTag bytes m s rest) → (two : BeginsWithTag bytes n t other)
    → (one.tag ≡ two.tag) × (rest ≡ other) × (m ≡ n) × (s ≡ t)
tag_at_once bytes rest other m s n t one two = grind (arith, common_steps, varint_once, tag_once)

pub field_once : (a b x y : List ℕ) (f g : PlainField)
    → IsFieldSpelling a f → IsFieldSpelling b g → a ++ x ≡ b ++ y → (a ≡ b) × (x ≡ y) × (f ≡ g)
unfolding tag_of_field
field_once a b x y f g left right same =
    let tags = tag_at_once (a ++ x) (left.rest ++ x) (right.rest ++ y) f.number (wire_type_of f.value)
    g.number (wire_type_of g.value) (tag_of_field (a ++ x) a x f left refl) (tag_of_field (a ++ x) b y g right same) in
    let values = value_once f.value g.value left.rest right.rest x y tags.3 left.valued right.valued tags.1 in (
      left.parts ∙ ap (λ (tag : List ℕ). tag ++ left.rest) tags.0
          ∙ ap (λ (rest : List ℕ). right.tag ++ rest) values.0 ∙ sym right.parts,
      values.1,
      ap (λ (n : ℕ). record { number = n; value = f.value }) tags.2
          ∙ ap (λ (v : FieldValue). record { number = g.number; value = v }) values.2,
    )

-- ---- a field at the front and a fault exclude one another

not-numbered : (number : ℕ) → IsFieldNumber number → (number ≡ 0) ⊎ (2 ^ 29 ≤ number) → ⊥
not-numbered number numbered range = grind (arith, common_steps)

not_cut_delimited : (a x c : List ℕ) → IsDelimited a c → IsCutDelimited (a ++ x) → ⊥
not_cut_delimited a x c spelled cut =
    let once = varint_once spelled.prefix cut.prefix (c ++ x) cut.rest (length c) cut.count spelled.spelled cut.spelled
    (sym (append_assoc spelled.prefix c x) ∙ ap (λ (front : List ℕ). front ++ x) (sym spelled.parts) ∙ cut.parts) in
    absurd (omega (arith, length-append c x, ap length once.1, once.2, cut.short))

not_varint_fault : (fault : WireFault) (a x c : List ℕ) → IsDelimited a c → IsVarintFault fault (a ++ x) → ⊥
not_varint_fault fault a x c spelled faulty = grind (arith, common_steps, fault_without_number)

-- the wire types of values
IsValueType : ℕ → Type 0
IsValueType t = ((t ≡ 0) ⊎ (t ≡ 2)) ⊎ ((t ≡ 1) ⊎ (t ≡ 5))

value-type : (v : FieldValue) → IsValueType (wire_type_of v)
unfolding IsValueType
value-type (varint n) = inl (inl refl)
value-type (fixed64 n) = inr (inl refl)
value-type (fixed32 n) = inr (inr refl)
value-type (content c) = inl (inr refl)

group-not-value : (t : ℕ) → (t ≡ 3) ⊎ (t ≡ 4) → IsValueType t → ⊥
unfolding IsValueType
group-not-value t p q = grind arith

unused-not-value : (t : ℕ) → 6 ≤ t → IsValueType t → ⊥
unfolding IsValueType
unused-not-value t p q = grind arith

value_not_cut : (v : FieldValue) (a x : List ℕ) → IsValueSpelling a v → IsCutValue (wire_type_of v) (a ++ x) → ⊥
value_not_cut (varint n) a x spelled (inl (inl p)) = fault_without_number Truncated (a ++ x) p.1 a x n refl spelled
value_not_cut (content c) a x spelled (inl (inl p)) = not_varint_fault Truncated a x c spelled p.1
value_not_cut v a x spelled (inl (inl p)) =
    elim (p.0) [ inl e ↦ absurd (omega (arith, e)) | inr e ↦ absurd (omega (arith, e)) ]
value_not_cut (content c) a x spelled (inl (inr p)) = not_cut_delimited a x c spelled p.1
value_not_cut v a x spelled (inl (inr p)) = absurd (omega (arith, p.0))
value_not_cut (fixed64 n) a x spelled (inr (inl p)) = absurd (omega (arith, p.1, spelled.0, length-append a x))
value_not_cut v a x spelled (inr (inl p)) = absurd (omega (arith, p.0))
value_not_cut (fixed32 n) a x spelled (inr (inr p)) = absurd (omega (arith, p.1, spelled.0, length-append a x))
value_not_cut v a x spelled (inr (inr p)) = absurd (omega (arith, p.0))

value_not_long : (v : FieldValue) (a x : List ℕ) → IsValueSpelling a v → IsLongValue (wire_type_of v) (a ++ x) → ⊥
value_not_long (varint n) a x spelled p = fault_without_number LongVarint (a ++ x) p.1 a x n refl spelled
value_not_long (content c) a x spelled p = not_varint_fault LongVarint a x c spelled p.1
value_not_long v a x spelled p = elim (p.0) [ inl e ↦ absurd (omega (arith, e)) | inr e ↦ absurd (omega (arith, e)) ]

value_no_tag_fault : (fault : WireFault) (number : ℕ) (v : FieldValue) (a x : List ℕ)
    → IsFieldNumber number → IsValueSpelling a v
    → IsTagFault fault number (wire_type_of v) (a ++ x) → ⊥
value_no_tag_fault FieldNumber number v a x numbered spelled faulty = not-numbered number numbered faulty
value_no_tag_fault Group number v a x numbered spelled faulty = group-not-value (wire_type_of v) faulty.1 (value-type v)
value_no_tag_fault WireType number v a x numbered spelled faulty =
    unused-not-value (wire_type_of v) faulty.1 (value-type v)
value_no_tag_fault Truncated number v a x numbered spelled faulty = value_not_cut v a x spelled faulty.1
value_no_tag_fault LongVarint number v a x numbered spelled faulty = value_not_long v a x spelled faulty.1

-- what is wrong after a tag stays so
tag_fault_moved : (fault : WireFault) (bytes rest other : List ℕ) (m s n t : ℕ) → BeginsWithTag bytes m s rest
    → BeginsWithTag bytes n t other → IsTagFault fault m s rest → IsTagFault fault n t other
tag_fault_moved fault bytes rest other m s n t one two faulty =
    let same = tag_at_once bytes rest other m s n t one two in
    subst (λ (k : ℕ). IsTagFault fault k t other) same.2
    (subst (λ (k : ℕ). IsTagFault fault m k other) same.3 (subst (IsTagFault fault m s) same.1 faulty))

pub fault_without_front : (fault : WireFault) (bytes : List ℕ) → IsFrontFault fault bytes
    → BeginsWithNone IsFieldSpelling bytes
fault_without_front fault bytes (inl faulty) a x f same spelled =
    let begun = tag_of_field bytes a x f spelled same in
    fault_without_number fault bytes faulty begun.tag (spelled.rest ++ x)
    (8 * f.number + wire_type_of f.value) begun.parts begun.tagged
fault_without_front fault bytes (inr (number, wire_type, rest, begun, faulty)) a x f same spelled =
    value_no_tag_fault fault f.number f.value spelled.rest x spelled.numbered spelled.valued
    (tag_fault_moved fault bytes rest (spelled.rest ++ x) number wire_type
    f.number (wire_type_of f.value) begun (tag_of_field bytes a x f spelled same) faulty)

-- ---- a rest has one fault

cut-type : (t : ℕ) (x : List ℕ) → IsCutValue t x → IsValueType t
unfolding IsValueType
cut-type t x (inl (inl p)) = inl p.0
cut-type t x (inl (inr p)) = inl (inr p.0)
cut-type t x (inr (inl p)) = inr (inl p.0)
cut-type t x (inr (inr p)) = inr (inr p.0)

long-type : (t : ℕ) (x : List ℕ) → IsLongValue t x → IsValueType t
unfolding IsValueType
long-type t x p = inl p.0

group-not-unused : (t : ℕ) → (t ≡ 3) ⊎ (t ≡ 4) → 6 ≤ t → ⊥
group-not-unused t p q = grind arith

two-types : (t : ℕ) → (t ≡ 0) ⊎ (t ≡ 2) → (t ≡ 1) ⊎ (t ≡ 5) → ⊥
two-types t p q = grind arith

cut_not_long_value : (t : ℕ) (x : List ℕ) → IsCutValue t x → IsLongValue t x → ⊥
cut_not_long_value t x (inl (inl p)) long = cut_not_long x p.1 long.1
cut_not_long_value t x (inl (inr p)) long =
    fault_without_number LongVarint x long.1 p.1.prefix p.1.rest p.1.count p.1.parts p.1.spelled
cut_not_long_value t x (inr (inl p)) long = two-types t long.0 (inl p.0)
cut_not_long_value t x (inr (inr p)) long = two-types t long.0 (inr p.0)

tag_fault_once : (f g : WireFault) (n t : ℕ) (x : List ℕ) → IsTagFault f n t x → IsTagFault g n t x → f ≡ g
tag_fault_once Truncated LongVarint n t x p q = absurd (cut_not_long_value t x p.1 q.1)
tag_fault_once LongVarint Truncated n t x p q = absurd (cut_not_long_value t x q.1 p.1)
tag_fault_once FieldNumber FieldNumber n t x p q = refl
tag_fault_once FieldNumber g n t x p q = absurd (not-numbered n q.0 p)
tag_fault_once f FieldNumber n t x p q = absurd (not-numbered n p.0 q)
tag_fault_once Group WireType n t x p q = absurd (group-not-unused t p.1 q.1)
tag_fault_once WireType Group n t x p q = absurd (group-not-unused t q.1 p.1)
tag_fault_once Group Truncated n t x p q = absurd (group-not-value t p.1 (cut-type t x q.1))
tag_fault_once Group LongVarint n t x p q = absurd (group-not-value t p.1 (long-type t x q.1))
tag_fault_once WireType Truncated n t x p q = absurd (unused-not-value t p.1 (cut-type t x q.1))
tag_fault_once WireType LongVarint n t x p q = absurd (unused-not-value t p.1 (long-type t x q.1))
tag_fault_once Truncated Group n t x p q = absurd (group-not-value t q.1 (cut-type t x p.1))
tag_fault_once Truncated WireType n t x p q = absurd (unused-not-value t q.1 (cut-type t x p.1))
tag_fault_once LongVarint Group n t x p q = absurd (group-not-value t q.1 (long-type t x p.1))
tag_fault_once LongVarint WireType n t x p q = absurd (unused-not-value t q.1 (long-type t x p.1))
tag_fault_once f g n t x p q = refl

pub front_fault_once : (f g : WireFault) (bytes : List ℕ) → IsFrontFault f bytes → IsFrontFault g bytes → f ≡ g
front_fault_once f g bytes (inl left) (inl right) = varint_fault_once f g bytes left right
front_fault_once f g bytes (inl left) (inr (n, t, rest, begun, faulty)) =
    absurd (fault_without_number f bytes left begun.tag rest (8 * n + t) begun.parts begun.tagged)
front_fault_once f g bytes (inr (n, t, rest, begun, faulty)) (inl right) =
    absurd (fault_without_number g bytes right begun.tag rest (8 * n + t) begun.parts begun.tagged)
front_fault_once f g bytes (inr (m, s, rest, begun, faulty)) (inr (n, t, other, too, wrong)) =
    tag_fault_once f g n t other (tag_fault_moved f bytes rest other m s n t begun too faulty) wrong
