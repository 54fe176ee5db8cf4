-- What follows of every message from its rows.
use Rattle.std.proofs.lemmas.Grind.{common_steps}
use Rattle.std.proofs.Common.{◌≡◌, ◌↔◌, ℕ, ◌<◌, ◌≤◌, ◌^◌, Bool, true, false, cond, ltb, ◌&&◌, ◌==◌, List, [], ◌∷◌, ◌++◌}
use Rattle.std.proofs.Common.{refl}
use Rattle.std.proofs.Common.{sym, ap, ◌∙◌, subst, arith, Result, Ok}
use Rattle.std.specs.Bool.{⊤}
use Rattle.std.proofs.lemmas.Bool.{ne_eqb, eq-eqb, eqb-true, and_parts, ltb-true}
use Rattle.pprof_wire.specs.Fields.{FieldValue, PlainField, IsFieldNumber}
use Rattle.pprof_profile.specs.declared.faults.ProfileFault.{ProfileFault}
use Rattle.pprof_profile.specs.Reading.{Rule, Table, Gathers, Spells, Where}
use Rattle.pprof_profile.specs.AllValues.{values_at}
use Rattle.pprof_profile.specs.Forms.{Kind, Rows, end, row, Parts, parts_of, Form, item_of, absent_parts, empty_of}
use Rattle.pprof_profile.specs.Forms.{AtFirst, InOthers, Takes, table_of, AreMade, IsMadeOf, written_after, bytes_of}
use Rattle.pprof_profile.specs.Forms.{PartsFit, Fits}
use Rattle.pprof_profile.proofs.AllValues.{TakesEach}
use Rattle.pprof_profile.proofs.Once.{Once, RuleOnce, TableOnce, once_through, where_once, skipped_once}
use Rattle.pprof_profile.proofs.ReadBack.{Piece, no_piece, pieces_joined}

-- ---- what is asked of the rows

-- the values of a kind's fields make what they do one after the other, and what is written is read back
pub record LawfulKind {A : Type 0} (kind : Kind A) : Type 1 where
  pub once : RuleOnce kind.rule
  pub made : (values : List FieldValue) (new : A) → TakesEach kind.rule kind.absent values new ↔ kind.IsMade values new
  pub piece : {M : Type 0} (table : Table M) (with : A → M) (number : ℕ) → IsFieldNumber number
      → ((old new : A) (value : FieldValue) → kind.rule old value (Ok new)
      → table (with old) number value (Ok (with new)))
      → (item : A) → kind.Fits item → Piece table (with kind.absent) (kind.written number item) (with item)

abbrev pub AreLawful : {M : Type 0} → Rows M → Type 1
AreLawful end = Unit {1}
AreLawful (row number kind part rows) = LawfulKind kind × AreLawful rows

-- the numbers are field numbers, each above the one before
abbrev pub rises : {M : Type 0} → ℕ → Rows M → Bool
rises before end = true
rises before (row number kind part rows) = ltb before number && (ltb number (2 ^ 29) && rises number rows)

pub record LawfulForm {M : Type 0} (form : Form M) : Type 1 where
  pub numbered : rises 0 form.rows ≡ true
  pub kinds : AreLawful form.rows
  pub parts : (parts : Parts form.rows) → parts_of form.rows (item_of form parts) ≡ parts
  pub item : (item : M) → item_of form (parts_of form.rows item) ≡ item

record Numbered {M : Type 0} (before number : ℕ) (rows : Rows M) : Type 0 where
  above : before < number
  small : number < 2 ^ 29
  others : rises number rows ≡ true

numbered : {M : Type 0} (before number : ℕ) (rows : Rows M)
    → (ltb before number && (ltb number (2 ^ 29) && rises number rows)) ≡ true → Numbered before number rows
numbered before number rows all = grind (arith, common_steps, and_parts, ltb-true)

-- ---- a field has one outcome

first_once : {A R : Type 0} (rule : Rule A) → RuleOnce rule → (old : A × R) (value : FieldValue)
    → Once (AtFirst rule old value)
first_once {A = A} {R = R} rule once old value =
    once_through (rule old.0 value) (λ (a : A) (new : A × R). (a ≡ new.0) × (new.1 ≡ old.1)) (AtFirst rule old value)
    (once old.0 value) (λ a x y left right i. ((sym left.0 ∙ right.0) i, (left.1 ∙ sym right.1) i))
    (λ new step. (new.0, step.0, (refl, step.1))) (λ fault wrong. wrong)

others_once : {A R : Type 0} (Is : R → Result R ProfileFault → Type 0) → ((old : R) → Once (Is old)) → (old : A × R)
    → Once (InOthers Is old)
others_once {A = A} {R = R} Is once old =
    once_through (Is old.1) (λ (r : R) (new : A × R). (r ≡ new.1) × (new.0 ≡ old.0)) (InOthers Is old)
    (once old.1) (λ r x y left right i. ((left.1 ∙ sym right.1) i, (sym left.0 ∙ right.0) i))
    (λ new step. (new.1, step.0, (refl, step.1))) (λ fault wrong. wrong)

takes_once : {M : Type 0} (rows : Rows M) → AreLawful rows → (number : ℕ) (value : FieldValue) (old : Parts rows)
    → Once (Takes rows number value old)
takes_once end lawful number value old = skipped_once old
takes_once (row at kind part rows) lawful number value old =
    where_once (number == at) _ _ (first_once kind.rule lawful.0.once old value)
    (others_once (Takes rows number value) (takes_once rows lawful.1 number value) old)

pub form_once : {M : Type 0} (form : Form M) → LawfulForm form → TableOnce (table_of form)
form_once {M = M} form lawful old number value =
    let rows = form.rows in
    once_through (Takes rows number value (parts_of rows old))
    (λ (parts : Parts rows) (new : M). parts ≡ parts_of rows new) (table_of form old number value)
    (takes_once rows lawful.kinds number value (parts_of rows old))
    (λ parts x y left right. sym (lawful.item x) ∙ ap (item_of form) (sym left ∙ right) ∙ lawful.item y)
    (λ new step. (parts_of rows new, step, refl)) (λ fault wrong. wrong)

-- ---- a field of a number, and the rows of other numbers

takes_where : {M A : Type 0} (kind : Kind A) (part : M → A) (rows : Rows M) (at number : ℕ) (value : FieldValue)
    (old next : Parts (row at kind part rows)) (here : Bool) → (number == at) ≡ here
    → Where here (AtFirst kind.rule old value) (InOthers (Takes rows number value) old) (Ok next)
    → Takes (row at kind part rows) number value old (Ok next)
takes_where kind part rows at number value old next here same = grind (arith, common_steps)

by_number : (here : Bool) (P : Bool → Type 0) → (here ≡ true → P true) → (here ≡ false → P false) → P here
by_number true P of_true of_false = of_true refl
by_number false P of_true of_false = of_false refl

-- the number is that of no row
abbrev pub IsNone : {M : Type 0} → ℕ → Rows M → Type 0
IsNone number end = ⊤
IsNone number (row at kind part rows) = ((number == at) ≡ false) × IsNone number rows

pub none_takes : {M : Type 0} (rows : Rows M) (number : ℕ) (value : FieldValue) (old : Parts rows)
    → IsNone number rows → Takes rows number value old (Ok old)
none_takes end number value old none = refl
none_takes (row at kind part rows) number value old none =
    takes_where kind part rows at number value old old false none.0 (none_takes rows number value old.1 none.1, refl)

-- the values of a number, after one more field
values_with : (at : ℕ) (field : PlainField) (fields : List PlainField) (here : Bool) → (field.number == at) ≡ here
    → values_at at (field ∷ fields) ≡ cond here (field.value ∷ values_at at fields) (values_at at fields)
values_with at field fields here same =
    ap (λ (h : Bool). cond h (field.value ∷ values_at at fields) (values_at at fields)) same

-- ---- what all fields make

-- the values of each row's number make the new part of the old one
abbrev TakesAll : {M : Type 0} (rows : Rows M) → Parts rows → List PlainField → Parts rows → Type 0
TakesAll end old fields new = ⊤
TakesAll (row at kind part rows) old fields new =
    TakesEach kind.rule old.0 (values_at at fields) new.0 × TakesAll rows old.1 fields new.1

none_taken : {M : Type 0} (rows : Rows M) (old new : Parts rows) → new ≡ old → TakesAll rows old [] new
none_taken end old new same = tt
none_taken (row at kind part rows) old new same =
    (ap (λ parts. parts.0) same, none_taken rows old.1 new.1 (ap (λ parts. parts.1) same))

none_back : {M : Type 0} (rows : Rows M) (old new : Parts rows) → TakesAll rows old [] new → new ≡ old
none_back end old new taken = refl
none_back (row at kind part rows) old new taken = λ i. (taken.0 i, none_back rows old.1 new.1 taken.1 i)

-- a field of a lower number makes no difference
other_same : {M : Type 0} (rows : Rows M) (before : ℕ) → rises before rows ≡ true → (field : PlainField)
    → field.number ≤ before → (fields : List PlainField) (old new : Parts rows)
    → TakesAll rows old (field ∷ fields) new ≡ TakesAll rows old fields new
other_same end before rise field most fields old new = refl
other_same (row at kind part rows) before rise field most fields old new =
    let here = numbered before at rows rise in
    let other : (field.number == at) ≡ false =
    ne_eqb field.number at (λ e. absurd (omega (arith, here.above, most, e))) in
    let others = other_same rows at here.others field (omega (arith, here.above, most)) fields old.1 new.1 in
    λ i. TakesEach kind.rule old.0 (values_with at field fields false other i) new.0 × others i

-- a field is taken first, and the others after it
field_taken : {M : Type 0} (rows : Rows M) (before : ℕ) → rises before rows ≡ true → (field : PlainField)
    (fields : List PlainField) (old next new : Parts rows) → Takes rows field.number field.value old (Ok next)
    → TakesAll rows next fields new → TakesAll rows old (field ∷ fields) new
field_taken end before rise field fields old next new step more = tt
field_taken (row at kind part rows) before rise field fields old next new step more =
    let numbers = numbered before at rows rise in
    by_number (field.number == at)
    (λ here. Where here (AtFirst kind.rule old field.value)
    (InOthers (Takes rows field.number field.value) old) (Ok next)
    → TakesAll (row at kind part rows) old (field ∷ fields) new)
    (λ here step. (
      rw (values_with at field fields true here) (next.0, step.0, more.0),
      subst (λ (X : Type 0). X) (sym (other_same rows at numbers.others field
          (omega (arith, eqb-true field.number at here)) fields old.1 new.1))
          (subst (λ (parts : Parts rows). TakesAll rows parts fields new.1) step.1 more.1),
    ))
    (λ other step. (
      rw (values_with at field fields false other)
          (subst (λ part. TakesEach kind.rule part (values_at at fields) new.0) step.1 more.0),
      field_taken rows at numbers.others field fields old.1 next.1 new.1 step.0 more.1,
    ))
    step

-- what all fields do is what the first does, and then the others
field_back : {M : Type 0} (rows : Rows M) (before : ℕ) → rises before rows ≡ true → (field : PlainField)
    (fields : List PlainField) (old new : Parts rows) → TakesAll rows old (field ∷ fields) new
    → (next : Parts rows) × Takes rows field.number field.value old (Ok next) × TakesAll rows next fields new
field_back end before rise field fields old new taken = (old, refl, tt)
field_back (row at kind part rows) before rise field fields old new taken =
    let numbers = numbered before at rows rise in
    by_number (field.number == at)
    (λ here. (next : Parts (row at kind part rows)) × Where here (AtFirst kind.rule old field.value)
    (InOthers (Takes rows field.number field.value) old) (Ok next) × TakesAll (row at kind part rows) next fields new)
    (λ here.
    let (next, step, more) = rw (values_with at field fields true here) at taken.0 in
    let most : field.number ≤ at = omega (arith, eqb-true field.number at here) in
    let others = other_same rows at numbers.others field most fields old.1 new.1 in
    ((next, old.1), (step, refl), (more, subst (λ (X : Type 0). X) others taken.1)))
    (λ other.
    let (next, step, more) = field_back rows at numbers.others field fields old.1 new.1 taken.1 in
    ((old.0, next), (step, refl), (rw (values_with at field fields false other) at taken.0, more)))

gathered_taken : {M : Type 0} (form : Form M) → LawfulForm form → (fields : List PlainField) (old new : M)
    → Gathers (table_of form) old fields new
    → TakesAll form.rows (parts_of form.rows old) fields (parts_of form.rows new)
gathered_taken form lawful [] old new same = none_taken form.rows _ _ (ap (parts_of form.rows) same)
gathered_taken form lawful (field ∷ fields) old new (next, step, more) =
    field_taken form.rows 0 lawful.numbered field fields _ _ _ step (gathered_taken form lawful fields next new more)

taken_gathered : {M : Type 0} (form : Form M) → LawfulForm form → (fields : List PlainField) (old new : M)
    → TakesAll form.rows (parts_of form.rows old) fields (parts_of form.rows new)
    → Gathers (table_of form) old fields new
taken_gathered form lawful [] old new taken =
    sym (lawful.item new) ∙ ap (item_of form) (none_back form.rows _ _ taken) ∙ lawful.item old
taken_gathered form lawful (field ∷ fields) old new taken =
    let rows = form.rows in
    let (next, step, more) = field_back rows 0 lawful.numbered field fields _ _ taken in
    let same = sym (lawful.parts next) in (
      item_of form next,
      subst (λ (parts : Parts rows). Takes rows field.number field.value (parts_of rows old) (Ok parts)) same step,
      taken_gathered form lawful fields (item_of form next) new
          (subst (λ (parts : Parts rows). TakesAll rows parts fields (parts_of rows new)) same more),
    )

all_made : {M : Type 0} (rows : Rows M) → AreLawful rows → (fields : List PlainField) (parts : Parts rows)
    → TakesAll rows (absent_parts rows) fields parts ↔ AreMade rows fields parts
all_made end lawful fields parts = (λ taken. tt, λ made. tt)
all_made (row at kind part rows) lawful fields parts =
    let here = lawful.0.made (values_at at fields) parts.0 in
    let others = all_made rows lawful.1 fields parts.1 in
    (λ taken. (here.0 taken.0, others.0 taken.1), λ made. (here.1 made.0, others.1 made.1))

pub form_made : {M : Type 0} (form : Form M) → LawfulForm form → (fields : List PlainField) (item : M)
    → Gathers (table_of form) (empty_of form) fields item → IsMadeOf form fields item
form_made form lawful fields item gathered =
    let rows = form.rows in
    (all_made rows lawful.kinds fields (parts_of rows item)).0
    (subst (λ (parts : Parts rows). TakesAll rows parts fields (parts_of rows item))
    (lawful.parts (absent_parts rows)) (gathered_taken form lawful fields (empty_of form) item gathered))

pub form_gathered : {M : Type 0} (form : Form M) → LawfulForm form → (fields : List PlainField) (item : M)
    → IsMadeOf form fields item → Gathers (table_of form) (empty_of form) fields item
form_gathered form lawful fields item made =
    let rows = form.rows in
    taken_gathered form lawful fields (empty_of form) item
    (subst (λ (parts : Parts rows). TakesAll rows parts fields (parts_of rows item))
    (sym (lawful.parts (absent_parts rows))) ((all_made rows lawful.kinds fields (parts_of rows item)).1 made))

-- ---- what is written is read back

rows_piece : {M N : Type 0} (rows : Rows N) (before : ℕ) → rises before rows ≡ true → AreLawful rows
    → (table : Table M) (with : Parts rows → M)
    → ((number : ℕ) (value : FieldValue) (old next : Parts rows) → before < number
    → Takes rows number value old (Ok next) → table (with old) number value (Ok (with next)))
    → (start : M) (fields : List PlainField) → Piece table start fields (with (absent_parts rows))
    → (parts : Parts rows) → PartsFit rows parts → Piece table start (written_after rows fields parts) (with parts)
rows_piece end before rise lawful table with step start fields so_far parts fit = so_far
rows_piece (row at kind part rows) before rise lawful table with step start fields so_far parts fit =
    let numbers = numbered before at rows rise in
    let absent = absent_parts rows in
    let one = lawful.0.piece table (λ first. with (first, absent)) at
    (record { least = omega (arith, numbers.above); most = numbers.small })
    (λ old new value ruled. step at value (old, absent) (new, absent) numbers.above
    (takes_where kind part rows at at value (old, absent) (new, absent) true (eq-eqb at at refl) (ruled, refl)))
    parts.0 fit.0 in
    rows_piece rows at numbers.others lawful.1 table (λ others. with (parts.0, others))
    (λ number value old next above taken.
    step number value (parts.0, old) (parts.0, next) (omega (arith, numbers.above, above))
    (takes_where kind part rows at number value (parts.0, old) (parts.0, next) false
    (ne_eqb number at (λ e. absurd (omega (arith, above, e)))) (taken, refl)))
    start (fields ++ kind.written at parts.0)
    (pieces_joined table start (with (kind.absent, absent)) (with (parts.0, absent)) fields (kind.written at parts.0)
    so_far one)
    parts.1 fit.1

pub form_back : {M : Type 0} (form : Form M) → LawfulForm form → (item : M) → Fits form item
    → Spells (table_of form) (empty_of form) (bytes_of form item) item
form_back {M = M} form lawful item fits =
    let rows = form.rows in
    let empty = empty_of form in
    subst (λ (m : M). Spells (table_of form) empty (bytes_of form item) m) (lawful.item item)
    (rows_piece rows 0 lawful.numbered lawful.kinds (table_of form) (item_of form)
    (λ number value old next above taken.
    subst (λ (parts : Parts rows). Takes rows number value parts (Ok (parts_of rows (item_of form next))))
    (sym (lawful.parts old))
    (subst (λ (parts : Parts rows). Takes rows number value old (Ok parts)) (sym (lawful.parts next)) taken))
    empty [] (no_piece (table_of form) empty empty refl) (parts_of rows item) fits)
