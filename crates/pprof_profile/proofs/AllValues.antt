-- What the values of one number make, one after the other.
use Rattle.std.proofs.lemmas.Grind.{common_steps}
use Rattle.std.proofs.Common.{arith, ◌≡◌, ℕ, List, [], ◌∷◌, ◌++◌, map, refl, sym, ap, ◌∙◌, subst, append_assoc, Ok}
use Rattle.std.proofs.lemmas.List.{append-nil}
use Rattle.std.specs.List.{AllByRecursion, flat_map}
use Rattle.std.specs.Str.{IsUtf8}
use Rattle.pprof_wire.specs.Fields.{FieldValue, varint, content, PlainField}
use Rattle.pprof_profile.specs.Reading.{Rule, Table, Gathers, SetsNumber, AddsNumbers, AddsText, AddsMessage}
use Rattle.pprof_profile.specs.Reading.{MergesMessage}
use Rattle.pprof_profile.specs.AllValues.{ArePaired, last_or, IsLast, AreNumbersOf, AreAllNumbers}
use Rattle.pprof_profile.specs.AllValues.{AreAllTexts, AreFieldsOf, AreAllMessages, IsOneMessage}
use Rattle.pprof_profile.proofs.Gathering.{gathers_joined, map_joined}

-- the values, one after the other, make the new part of the old one
abbrev pub TakesEach : {A : Type 0} → Rule A → A → List FieldValue → A → Type 0
TakesEach rule old [] new = new ≡ old
TakesEach {A = A} rule old (value ∷ values) new = (next : A) × rule old value (Ok next) × TakesEach rule next values new

-- ---- what the values of one number make

last_taken : {A : Type 0} (from : ℕ → A) (before : ℕ) (values : List FieldValue) (new : A)
    → TakesEach (SetsNumber from) (from before) values new
    → (numbers : List ℕ) × (values ≡ map varint numbers) × (new ≡ from (last_or before numbers))
last_taken from before [] new same = ([], refl, same)
last_taken {A = A} from before (varint number ∷ values) new (next, step, more) =
    let here : next ≡ from number = cc step in
    let rest = last_taken from number values new
    (subst (λ (x : A). TakesEach (SetsNumber from) x values new) here more) in
    (number ∷ rest.0, ap (λ (vs : List FieldValue). varint number ∷ vs) rest.1, rest.2)
last_taken from before (value ∷ values) new (next, step, more) = absurd cc

pub is_last : {A : Type 0} (from : ℕ → A) (values : List FieldValue) (new : A)
    → TakesEach (SetsNumber from) (from 0) values new → IsLast from values new
is_last from values new taken = grind (arith, common_steps, last_taken)

all_numbers : {A : Type 0} (from : ℕ → A) (old : List A) (values : List FieldValue) (new : List A)
    → TakesEach (AddsNumbers from) old values new
    → (numbers : List (List ℕ))
    × ArePaired AreNumbersOf values numbers × (new ≡ old ++ map from (flat_map (λ part. part) numbers))
all_numbers from old [] new same = ([], refl, same ∙ sym (append-nil old))
all_numbers {A = A} from old (varint number ∷ values) new (next, step, more) =
    let here : next ≡ old ++ from number ∷ [] = cc step in
    let rest = all_numbers from next values new more in (
      (number ∷ []) ∷ rest.0,
      (refl, rest.1),
      rest.2 ∙ ap (λ (xs : List A). xs ++ map from (flat_map (λ part. part) rest.0)) here
          ∙ append_assoc old (from number ∷ []) (map from (flat_map (λ part. part) rest.0)),
    )
all_numbers {A = A} from old (content bytes ∷ values) new (next, step, more) =
    let rest = all_numbers from next values new more in
    let after = flat_map (λ part. part) rest.0 in (
      step.numbers ∷ rest.0,
      (step.listed, rest.1),
      rest.2 ∙ ap (λ (xs : List A). xs ++ map from after) step.appended
          ∙ append_assoc old (map from step.numbers) (map from after)
          ∙ ap (λ (xs : List A). old ++ xs) (sym (map_joined from step.numbers after)),
    )
all_numbers from old (value ∷ values) new (next, step, more) = absurd cc

pub are_all_numbers : {A : Type 0} (from : ℕ → A) (values : List FieldValue) (new : List A)
    → TakesEach (AddsNumbers from) [] values new → AreAllNumbers from values new
are_all_numbers from values new taken = grind (arith, common_steps, all_numbers)

all_texts : (old : List (List ℕ)) (values : List FieldValue) (new : List (List ℕ)) → TakesEach AddsText old values new
    → (texts : List (List ℕ)) × (values ≡ map content texts) × AllByRecursion IsUtf8 texts × (new ≡ old ++ texts)
all_texts old [] new same = ([], refl, tt, same ∙ sym (append-nil old))
all_texts old (content bytes ∷ values) new (next, step, more) =
    grind (arith, common_steps, all_texts next values new more)
all_texts old (value ∷ values) new (next, step, more) = absurd cc

pub are_all_texts : (values : List FieldValue) (new : List (List ℕ)) → TakesEach AddsText [] values new
    → AreAllTexts values new
are_all_texts values new taken = grind (arith, common_steps, all_texts)

all_messages : {M : Type 0} (table : Table M) (empty : M) (Is : List PlainField → M → Type 0)
    → ((fields : List PlainField) (item : M) → Gathers table empty fields item → Is fields item)
    → (old : List M) (values : List FieldValue) (new : List M) → TakesEach (AddsMessage table empty) old values new
    → (lists : List (List PlainField))
    × (items : List M) × ArePaired AreFieldsOf values lists × ArePaired Is lists items × (new ≡ old ++ items)
all_messages table empty Is by old [] new same = ([], [], refl, refl, same ∙ sym (append-nil old))
all_messages {M = M} table empty Is by old (content bytes ∷ values) new (next, step, more) =
    let (lists, items, listed, each, after) = all_messages table empty Is by next values new more in (
      step.spelled.fields ∷ lists,
      step.item ∷ items,
      (step.spelled.listed, listed),
      (by step.spelled.fields step.item step.spelled.gathered, each),
      after ∙ ap (λ (xs : List M). xs ++ items) step.appended ∙ append_assoc old (step.item ∷ []) items,
    )
all_messages table empty Is by old (value ∷ values) new (next, step, more) = absurd cc

pub are_all_messages : {M : Type 0} (table : Table M) (empty : M) (Is : List PlainField → M → Type 0)
    → ((fields : List PlainField) (item : M) → Gathers table empty fields item → Is fields item)
    → (values : List FieldValue) (new : List M)
    → TakesEach (AddsMessage table empty) [] values new → AreAllMessages Is values new
are_all_messages {M = M} table empty Is by values new taken =
    let (lists, items, listed, each, same) = all_messages table empty Is by [] values new taken in
    record { lists = lists; listed = listed; each = subst (λ (xs : List M). ArePaired Is lists xs) (sym same) each }

all_together : {M : Type 0} (table : Table M) (old : M) (values : List FieldValue) (new : M)
    → TakesEach (MergesMessage table) old values new
    → (lists : List (List PlainField))
    × ArePaired AreFieldsOf values lists × Gathers table old (flat_map (λ part. part) lists) new
all_together table old [] new same = ([], refl, same)
all_together table old (content bytes ∷ values) new (next, step, more) =
    let rest = all_together table next values new more in (
      step.fields ∷ rest.0,
      (step.listed, rest.1),
      gathers_joined table old next new step.fields (flat_map (λ part. part) rest.0) step.gathered rest.2,
    )
all_together table old (value ∷ values) new (next, step, more) = absurd cc

pub is_one_message : {M : Type 0} (table : Table M) (empty : M) (Is : List PlainField → M → Type 0)
    → ((fields : List PlainField) (item : M) → Gathers table empty fields item → Is fields item)
    → (values : List FieldValue) (new : M)
    → TakesEach (MergesMessage table) empty values new → IsOneMessage Is values new
is_one_message table empty Is by values new taken = grind (arith, common_steps, all_together)

-- ---- and back

last_back_from : {A : Type 0} (from : ℕ → A) (before : ℕ) (numbers : List ℕ)
    → TakesEach (SetsNumber from) (from before) (map varint numbers) (from (last_or before numbers))
last_back_from from before [] = refl
last_back_from from before (number ∷ numbers) = (from number, refl, last_back_from from number numbers)

pub last_back : {A : Type 0} (from : ℕ → A) (values : List FieldValue) (item : A)
    → IsLast from values item → TakesEach (SetsNumber from) (from 0) values item
last_back {A = A} from values item is =
    subst (λ (vs : List FieldValue). TakesEach (SetsNumber from) (from 0) vs item) (sym is.varints)
    (subst (λ (x : A). TakesEach (SetsNumber from) (from 0) (map varint is.numbers) x)
    (sym is.last) (last_back_from from 0 is.numbers))

-- the rest is appended after what comes first
after : {A : Type 0} (old first rest new : List A) → new ≡ old ++ (first ++ rest) → new ≡ (old ++ first) ++ rest
after old first rest new same = same ∙ sym (append_assoc old first rest)

numbers_back_from : {A : Type 0}
    (from : ℕ → A) (old : List A) (values : List FieldValue) (numbers : List (List ℕ)) (new : List A)
    → ArePaired AreNumbersOf values numbers
    → new ≡ old ++ map from (flat_map (λ part. part) numbers) → TakesEach (AddsNumbers from) old values new
numbers_back_from {A = A} from old [] numbers new paired same =
    same ∙ ap (λ (parts : List (List ℕ)). old ++ map from (flat_map (λ part. part) parts)) paired ∙ append-nil old
numbers_back_from from old (value ∷ values) [] new paired same = absurd paired
numbers_back_from {A = A} from old (varint number ∷ values) (part ∷ numbers) new (here, others) same =
    let rest = flat_map (λ part. part) numbers in
    let joined : new ≡ old ++ map from ((number ∷ []) ++ rest) = same
    ∙ ap (λ (xs : List ℕ). old ++ map from (xs ++ rest)) here in (
      old ++ from number ∷ [],
      refl,
      numbers_back_from from (old ++ from number ∷ []) values numbers new others
          (after old (from number ∷ []) (map from rest) new joined),
    )
numbers_back_from {A = A} from old (content bytes ∷ values) (part ∷ numbers) new (here, others) same =
    let rest = flat_map (λ part. part) numbers in
    let joined : new ≡ old ++ (map from part ++ map from rest) = same
    ∙ ap (λ (xs : List A). old ++ xs) (map_joined from part rest) in (
      old ++ map from part,
      record { numbers = part; listed = here; appended = refl },
      numbers_back_from from
          (old ++ map from part) values numbers new others (after old (map from part) (map from rest) new joined),
    )
numbers_back_from from old (value ∷ values) (part ∷ numbers) new paired same = absurd paired.0

pub all_numbers_back : {A : Type 0} (from : ℕ → A) (values : List FieldValue) (items : List A)
    → AreAllNumbers from values items
    → TakesEach (AddsNumbers from) [] values items
all_numbers_back from values items is = numbers_back_from from [] values is.numbers items is.numbered is.all

texts_back_from : (old texts new : List (List ℕ))
    → AllByRecursion IsUtf8 texts → new ≡ old ++ texts → TakesEach AddsText old (map content texts) new
texts_back_from old [] new utf8 same = same ∙ append-nil old
texts_back_from old (text ∷ texts) new utf8 same =
    grind (arith, after, texts_back_from (old ++ text ∷ []) texts new utf8.1 (after old (text ∷ []) texts new same))

pub all_texts_back : (values : List FieldValue) (texts : List (List ℕ))
    → AreAllTexts values texts → TakesEach AddsText [] values texts
all_texts_back values texts is = grind (arith, common_steps, texts_back_from)

messages_back_from : {M : Type 0} (table : Table M) (empty : M) (Is : List PlainField → M → Type 0)
    → ((fields : List PlainField) (item : M) → Is fields item → Gathers table empty fields item)
    → (old : List M) (values : List FieldValue) (lists : List (List PlainField)) (items new : List M)
    → ArePaired AreFieldsOf values lists
    → ArePaired Is lists items → new ≡ old ++ items → TakesEach (AddsMessage table empty) old values new
messages_back_from table empty Is back old [] [] items new listed each same =
    same ∙ ap (λ xs. old ++ xs) each ∙ append-nil old
messages_back_from table empty Is back old [] (list ∷ lists) items new listed each same = absurd cc
messages_back_from table empty Is back old (value ∷ values) [] items new listed each same = absurd listed
messages_back_from table empty Is back old (value ∷ values) (list ∷ lists) [] new listed each same = absurd each
messages_back_from table empty Is back old (content bytes ∷ values) (list ∷ lists) (item ∷ items)
    new listed each same = (
      old ++ item ∷ [],
      record {
        item =
            item;
        spelled = record { fields = list; listed = listed.0; gathered = back list item each.0 };
        appended = refl;
      },
      messages_back_from table empty Is back
          (old ++ item ∷ []) values lists items new listed.1 each.1 (after old (item ∷ []) items new same),
    )
messages_back_from table empty Is back old (value ∷ values) (list ∷ lists) (item ∷ items) new listed each same =
    absurd listed.0

pub all_messages_back : {M : Type 0} (table : Table M) (empty : M) (Is : List PlainField → M → Type 0)
    → ((fields : List PlainField) (item : M) → Is fields item → Gathers table empty fields item)
    → (values : List FieldValue) (items : List M)
    → AreAllMessages Is values items → TakesEach (AddsMessage table empty) [] values items
all_messages_back table empty Is back values items is =
    messages_back_from table empty Is back [] values is.lists items items is.listed is.each refl

gathers_split : {M : Type 0} (table : Table M) (old new : M) (xs ys : List PlainField)
    → Gathers table old (xs ++ ys) new
    → (mid : M) × Gathers table old xs mid × Gathers table mid ys new
gathers_split table old new [] ys gathered = (old, refl, gathered)
gathers_split table old new (x ∷ xs) ys (next, step, more) =
    grind (arith, common_steps, gathers_split table next new xs ys more)

together_back : {M : Type 0}
    (table : Table M) (old : M) (values : List FieldValue) (lists : List (List PlainField)) (new : M)
    → ArePaired AreFieldsOf values lists
    → Gathers table old (flat_map (λ part. part) lists) new → TakesEach (MergesMessage table) old values new
together_back table old [] [] new listed gathered = gathered
together_back table old [] (list ∷ lists) new listed gathered = absurd cc
together_back table old (value ∷ values) [] new listed gathered = absurd listed
together_back table old (content bytes ∷ values) (list ∷ lists) new listed gathered =
    let (mid, left, right) = gathers_split table old new list (flat_map (λ part. part) lists) gathered in (
      mid,
      record { fields = list; listed = listed.0; gathered = left },
      together_back table mid values lists new listed.1 right,
    )
together_back table old (value ∷ values) (list ∷ lists) new listed gathered = absurd listed.0

pub one_message_back : {M : Type 0} (table : Table M) (empty : M) (Is : List PlainField → M → Type 0)
    → ((fields : List PlainField) (item : M) → Is fields item → Gathers table empty fields item)
    → (values : List FieldValue) (item : M)
    → IsOneMessage Is values item → TakesEach (MergesMessage table) empty values item
one_message_back table empty Is back values item is =
    together_back table empty values is.lists item is.listed (back (flat_map (λ part. part) is.lists) item is.together)
