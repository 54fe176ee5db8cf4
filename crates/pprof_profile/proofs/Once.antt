-- Reading has one outcome.
use Rattle.std.proofs.lemmas.Grind.{common_steps}
use Rattle.std.proofs.Common.{rules, ◌≡◌, ℕ, ◌⊎◌, inl, inr, Bool, true, false, List, [], ◌∷◌, ◌++◌, length, map, refl}
use Rattle.std.proofs.Common.{sym, ap}
use Rattle.std.proofs.Common.{◌∙◌, subst, append_assoc, arith, Result, Ok, Err}
use Rattle.std.proofs.lemmas.List.{append-nil}
use Rattle.pprof_wire.specs.Varints.{IsNumberList}
use Rattle.pprof_wire.specs.Fields.{FieldValue, varint, content, PlainField, IsFieldSpelling}
use Rattle.pprof_wire.specs.Fields.{IsFieldList}
use Rattle.pprof_wire.proofs.VarintLaws.{varint_fault_once}
use Rattle.pprof_wire.proofs.FieldLaws.{field_once, front_fault_once}
use Rattle.pprof_wire.proofs.ListLaws.{nil_without_field, fault_without_field, numbers_split_once, numbers_end}
use Rattle.pprof_wire.proofs.ListLaws.{number_fault_ends}
use Rattle.pprof_profile.specs.declared.faults.ProfileFault.{ProfileFault}
use Rattle.pprof_profile.specs.declared.faults.ProfileFault.TheVariants.{Wire}
use Rattle.pprof_profile.specs.Reading.{Rule, Table, Gathers, IsFieldFault, IsEndFault, Reads, SetsNumber}
use Rattle.pprof_profile.specs.Reading.{IsPackedFault, AddsPacked, AddsNumbers, AddsUtf8, AddsText, AddsItem}
use Rattle.pprof_profile.specs.Reading.{AddsMessage, MergesMessage, Where, IsSkipped}

-- at most one outcome is allowed
abbrev pub Once : {O : Type 0} → (O → Type 0) → Type 0
Once {O = O} allowed = (a b : O) → allowed a → allowed b → a ≡ b

-- each field of a table has at most one
abbrev pub TableOnce : {M : Type 0} → Table M → Type 0
TableOnce {M = M} table = (old : M) (number : ℕ) (value : FieldValue) → Once (table old number value)

abbrev pub RuleOnce : {A : Type 0} → Rule A → Type 0
RuleOnce {A = A} rule = (old : A) (value : FieldValue) → Once (rule old value)

-- so there is one result, or one fault, and not both
pub ok_once : {A : Type 0} (Is : Result A ProfileFault → Type 0) → Once Is → (a b : A) → Is (Ok a) → Is (Ok b) → a ≡ b
ok_once {A = A} Is once a b left right =
    let one : Result A ProfileFault = Ok a in
    let other : Result A ProfileFault = Ok b in
    let both : one ≡ other = once one other left right in cc both

pub ok_or_fault : {A : Type 0} (Is : Result A ProfileFault → Type 0) → Once Is → (a : A) (fault : ProfileFault)
    → Is (Ok a) → Is (Err fault) → ⊥
ok_or_fault Is once a fault left right =
    let both : Ok a ≡ Err fault = once (Ok a) (Err fault) left right in absurd cc

pub fault_once : {A : Type 0} (Is : Result A ProfileFault → Type 0) → Once Is → (f g : ProfileFault)
    → Is (Err f) → Is (Err g) → f ≡ g
fault_once {A = A} Is once f g left right =
    let one : Result A ProfileFault = Err f in
    let other : Result A ProfileFault = Err g in
    let both : one ≡ other = once one other left right in cc both

-- what stands for something that has at most one outcome has at most one
pub once_through : {A B : Type 0} (Is : Result A ProfileFault → Type 0) (Stands : A → B → Type 0)
    (Of : Result B ProfileFault → Type 0) → Once Is
    → ((a : A) (b c : B) → Stands a b → Stands a c → b ≡ c) → ((b : B) → Of (Ok b) → (a : A) × Is (Ok a) × Stands a b)
    → ((fault : ProfileFault) → Of (Err fault) → Is (Err fault)) → Once Of
once_through {A = A} Is Stands Of once one stood failed (Ok x) (Ok y) left right =
    let (a, is, stands) = stood x left in
    let (b, too, stays) = stood y right in
    ap Ok (one b x y (subst (λ (z : A). Stands z x) (ok_once Is once a b is too) stands) stays)
once_through Is Stands Of once one stood failed (Ok x) (Err f) left right =
    let (a, is, stands) = stood x left in absurd (ok_or_fault Is once a f is (failed f right))
once_through Is Stands Of once one stood failed (Err f) (Ok y) left right =
    let (b, is, stands) = stood y right in absurd (ok_or_fault Is once b f is (failed f left))
once_through Is Stands Of once one stood failed (Err f) (Err g) left right =
    ap Err (fault_once Is once f g (failed f left) (failed g right))

-- ---- the fields of a message

-- where reading ends: at the end of the bytes, or at a fault
abbrev Ending : {M : Type 0} → Table M → M → List ℕ → Result M ProfileFault → Type 0
Ending table old rest (Ok new) = (rest ≡ []) × (new ≡ old)
Ending table old rest (Err fault) = IsFieldFault table old rest fault ⊎ IsEndFault rest fault

-- the fields are taken one after the other, and then reading ends
abbrev Steps : {M : Type 0} → Table M → List PlainField → M → List ℕ → Result M ProfileFault → Type 0
Steps table [] old bytes outcome = Ending table old bytes outcome
Steps {M = M} table (field ∷ fields) old bytes outcome =
    (next : M) × (spelling : List ℕ) × (after : List ℕ) × (bytes ≡ spelling ++ after)
    × IsFieldSpelling spelling field × table old field.number field.value (Ok next)
    × Steps table fields next after outcome

steps_to : {M : Type 0} (table : Table M) (fields : List PlainField) (old mid : M) (bytes front rest : List ℕ)
    (outcome : Result M ProfileFault) → bytes ≡ front ++ rest → IsFieldList front fields → Gathers table old fields mid
    → Ending table mid rest outcome → Steps table fields old bytes outcome
steps_to {M = M} table [] old mid bytes front rest outcome parts listed gathered ending =
    subst (λ (xs : List ℕ). Ending table old xs outcome) (sym (parts ∙ ap (λ (xs : List ℕ). xs ++ rest) listed))
    (subst (λ (m : M). Ending table m rest outcome) gathered ending)
steps_to table (x ∷ xs) old mid bytes front rest outcome parts
    (first, after, split, spelled, others) (next, step, more) ending = (
      next,
      first,
      after ++ rest,
      parts ∙ ap (λ (ys : List ℕ). ys ++ rest) split ∙ append_assoc first after rest,
      spelled,
      step,
      steps_to table xs next mid (after ++ rest) after rest outcome refl others more ending,
    )

steps_of : {M : Type 0} (table : Table M) (old : M) (bytes : List ℕ) (outcome : Result M ProfileFault)
    → Reads table old bytes outcome → (fields : List PlainField) × Steps table fields old bytes outcome
steps_of table old bytes (Ok new) read = (
  read.fields,
  steps_to table read.fields old new bytes bytes [] (Ok new) (sym (append-nil bytes)) read.listed read.gathered
      (refl, refl),
)
steps_of table old bytes (Err fault) read = grind (arith, common_steps, steps_to)

-- where a field stands that is taken, reading does not end
no_ending : {M : Type 0} (table : Table M) → TableOnce table
    → (old next : M) (bytes spelling after : List ℕ) (field : PlainField) (outcome : Result M ProfileFault)
    → Ending table old bytes outcome
    → bytes ≡ spelling ++ after → IsFieldSpelling spelling field → table old field.number field.value (Ok next) → ⊥
no_ending table once old next bytes spelling after field (Ok new) (empty, same) parts spelled step =
    nil_without_field spelling after field (sym empty ∙ parts) spelled
no_ending {M = M} table once old next bytes spelling after field (Err fault) (inl wrong) parts spelled step =
    let here = field_once spelling wrong.spelling after wrong.rest field wrong.field spelled wrong.spelled
    (sym parts ∙ wrong.parts) in
    let bad : table old field.number field.value (Err fault) =
    subst (λ (f : PlainField). table old f.number f.value (Err fault)) (sym here.2) wrong.faulty in
    ok_or_fault (table old field.number field.value) (once old field.number field.value) next fault step bad
no_ending table once old next bytes spelling after field (Err fault) (inr wrong) parts spelled step =
    fault_without_field wrong.wrong bytes wrong.faulty spelling after field parts spelled

ending_once : {M : Type 0} (table : Table M) → TableOnce table → (old : M)
    (bytes : List ℕ) (a b : Result M ProfileFault) → Ending table old bytes a → Ending table old bytes b → a ≡ b
ending_once table once old bytes (Ok x) (Ok y) left right = ap Ok (left.1 ∙ sym right.1)
ending_once table once old bytes (Ok x) (Err f) left (inl wrong) =
    absurd (nil_without_field wrong.spelling wrong.rest wrong.field (sym left.0 ∙ wrong.parts) wrong.spelled)
ending_once table once old bytes (Ok x) (Err f) left (inr wrong) =
    absurd (omega (arith, ap length left.0, wrong.faulty.some))
ending_once table once old bytes (Err f) (Ok x) (inl wrong) right =
    absurd (nil_without_field wrong.spelling wrong.rest wrong.field (sym right.0 ∙ wrong.parts) wrong.spelled)
ending_once table once old bytes (Err f) (Ok x) (inr wrong) right =
    absurd (omega (arith, ap length right.0, wrong.faulty.some))
ending_once table once old bytes (Err f) (Err g) (inl wrong) (inl bad) =
    let here = field_once wrong.spelling bad.spelling
    wrong.rest bad.rest wrong.field bad.field wrong.spelled bad.spelled (sym wrong.parts ∙ bad.parts) in
    once old bad.field.number bad.field.value
    (Err f) (Err g) (subst (λ (x : PlainField). table old x.number x.value (Err f)) here.2 wrong.faulty) bad.faulty
ending_once table once old bytes (Err f) (Err g) (inl wrong) (inr bad) = search (rules, fault_without_field)
ending_once table once old bytes (Err f) (Err g) (inr bad) (inl wrong) = search (rules, fault_without_field)
ending_once table once old bytes (Err f) (Err g) (inr wrong) (inr bad) =
    let same : wrong.wrong ≡ bad.wrong =
    front_fault_once wrong.wrong bad.wrong bytes wrong.faulty.front bad.faulty.front in
    ap Err (wrong.is ∙ ap Wire same ∙ sym bad.is)

steps_once : {M : Type 0} (table : Table M) → TableOnce table
    → (xs ys : List PlainField) (old : M) (bytes : List ℕ) (a b : Result M ProfileFault)
    → Steps table xs old bytes a → Steps table ys old bytes b → a ≡ b
steps_once table once [] [] old bytes a b left right = ending_once table once old bytes a b left right
steps_once table once [] (y ∷ ys) old bytes a b left (next, spelling, after, parts, spelled, step, more) =
    absurd (no_ending table once old next bytes spelling after y a left parts spelled step)
steps_once table once (x ∷ xs) [] old bytes a b (next, spelling, after, parts, spelled, step, more) right =
    absurd (no_ending table once old next bytes spelling after x b right parts spelled step)
steps_once {M = M} table once (x ∷ xs) (y ∷ ys) old bytes a b (next, spelling, after, parts, spelled, step, more)
    (then, cut, past, pieces, written, move, yet) =
    let here = field_once spelling cut after past x y spelled written (sym parts ∙ pieces) in
    let moved : table old x.number x.value (Ok then) =
    subst (λ (z : PlainField). table old z.number z.value (Ok then)) (sym here.2) move in
    let same = ok_once (table old x.number x.value) (once old x.number x.value) next then step moved in
    steps_once table once xs ys next after a b more
    (subst (λ (m : M). Steps table ys m after b) (sym same)
    (subst (λ (rest : List ℕ). Steps table ys then rest b) (sym here.1) yet))

pub reads_once : {M : Type 0} (table : Table M)
    → TableOnce table → (old : M) (bytes : List ℕ) → Once (Reads table old bytes)
reads_once table once old bytes a b one other = grind (arith, common_steps, steps_of, steps_once)

-- ---- the rules for the value of a field

pub sets_once : {A : Type 0} (from : ℕ → A) → RuleOnce (SetsNumber from)
sets_once from old (varint number) a b left right = left ∙ sym right
sets_once from old value a b left right = left ∙ sym right

packed_apart : (bytes numbers : List ℕ)
    → IsNumberList bytes numbers → (fault : ProfileFault) → IsPackedFault bytes fault → ⊥
packed_apart bytes numbers listed fault wrong =
    grind (arith, common_steps, numbers_split_once, numbers_end, number_fault_ends)

packed_fault_once : (bytes : List ℕ) (f g : ProfileFault) → IsPackedFault bytes f → IsPackedFault bytes g → f ≡ g
packed_fault_once bytes f g left right =
    grind (arith, common_steps, varint_fault_once, numbers_split_once, number_fault_ends)

packed_once : {A : Type 0} (from : ℕ → A) (old : List A) (bytes : List ℕ) → Once (AddsPacked from old bytes)
packed_once {A = A} from old bytes (Ok x) (Ok y) left right =
    let same = numbers_split_once bytes [] [] left.numbers right.numbers
    (numbers_end bytes left.numbers left.listed) (numbers_end bytes right.numbers right.listed) in
    ap Ok (left.appended ∙ ap (λ (ns : List ℕ). old ++ map from ns) same.0 ∙ sym right.appended)
packed_once from old bytes (Ok x) (Err f) left wrong = absurd (packed_apart bytes left.numbers left.listed f wrong)
packed_once from old bytes (Err f) (Ok x) wrong right = absurd (packed_apart bytes right.numbers right.listed f wrong)
packed_once from old bytes (Err f) (Err g) left right = ap Err (packed_fault_once bytes f g left right)

pub numbers_once : {A : Type 0} (from : ℕ → A) → RuleOnce (AddsNumbers from)
numbers_once from old (content bytes) a b left right = packed_once from old bytes a b left right
numbers_once from old value a b left right = left ∙ sym right

utf8_once : (old : List (List ℕ)) (bytes : List ℕ) → Once (AddsUtf8 old bytes)
utf8_once old bytes (Ok x) (Ok y) left right = ap Ok (left.1 ∙ sym right.1)
utf8_once old bytes (Ok x) (Err f) left right = absurd (right.0 left.0)
utf8_once old bytes (Err f) (Ok x) left right = absurd (left.0 right.0)
utf8_once old bytes (Err f) (Err g) left right = ap Err (left.1 ∙ sym right.1)

pub text_once : RuleOnce AddsText
text_once old (content bytes) a b left right = utf8_once old bytes a b left right
text_once old value a b left right = left ∙ sym right

item_once : {M : Type 0} (table : Table M)
    → TableOnce table → (empty : M) (old : List M) (bytes : List ℕ) → Once (AddsItem table empty old bytes)
item_once {M = M} table once empty old bytes =
    once_through (Reads table empty bytes) (λ (item : M) (new : List M). new ≡ old ++ item ∷ [])
    (AddsItem table empty old bytes) (reads_once table once empty bytes) (λ item x y left right. left ∙ sym right)
    (λ new added. (added.item, added.spelled, added.appended)) (λ fault wrong. wrong)

pub message_once : {M : Type 0} (table : Table M) → TableOnce table → (empty : M) → RuleOnce (AddsMessage table empty)
message_once table once empty old (content bytes) a b left right = item_once table once empty old bytes a b left right
message_once table once empty old value a b left right = left ∙ sym right

pub merge_once : {M : Type 0} (table : Table M) → TableOnce table → RuleOnce (MergesMessage table)
merge_once table once old (content bytes) a b left right = reads_once table once old bytes a b left right
merge_once table once old value a b left right = left ∙ sym right

-- ---- the rows of a table

pub where_once : {O : Type 0} (here : Bool) (row others : O → Type 0)
    → Once row → Once others → Once (Where here row others)
where_once true row others one more a b left right = one a b left right
where_once false row others one more a b left right = more a b left right

pub skipped_once : {M : Type 0} (old : M) → Once (IsSkipped old)
skipped_once old a b left right = left ∙ sym right
