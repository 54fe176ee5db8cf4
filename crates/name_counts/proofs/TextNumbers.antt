-- Where texts stand, as texts are added.
use Rattle.std.proofs.lemmas.Grind.{common_steps}
use Rattle.std.proofs.Common.{rules, ◌≡◌, ℕ, zero, suc, ◌+◌, ◌<◌, ◌≤◌, true, false, cond, ◌||◌, List, [], ◌∷◌}
use Rattle.std.proofs.Common.{◌++◌, length}
use Rattle.std.proofs.Common.{take, map, get_or, refl, sym, ap, ◌∙◌, arith}
use Rattle.std.specs.Prelude.{position, slice_index_or, unwrap_or}
use Rattle.std.specs.List.{list_any, position_or_len}
use Rattle.std.specs.Str.{bytes_eq}
use Rattle.indexmap.specs.IndexSet.{insert_key}
use Rattle.std.proofs.lemmas.Bool.{false≢true}
use Rattle.std.proofs.lemmas.List.{take_more, length-map, map-append}
use denote.Ref.{Bor}
use mathlib.Core.Bool.{or-false}
use Rattle.name_counts.specs.TextTables.{no_text, number_in, with_text, with_texts}
use Rattle.profile_rows.proofs.Members.{list_any-map}
use Rattle.profile_rows.proofs.SameNames.{same_from_is_same_name, is_same_name-self}

pub number_in-le : (texts : List (List ℕ)) (text : List ℕ) → number_in texts text ≤ length texts
number_in-le [] text = omega arith
number_in-le (first ∷ texts) text = grind (arith, common_steps, number_in-le texts text)

number_in-missing : (texts : List (List ℕ)) (text : List ℕ)
    → list_any (bytes_eq text) texts ≡ false → number_in texts text ≡ length texts
number_in-missing [] text none = refl
number_in-missing (first ∷ texts) text none = grind (arith, common_steps, number_in-missing texts text)

-- a text that is there stands before the end
pub number_in-lt : (texts : List (List ℕ)) (text : List ℕ)
    → list_any (bytes_eq text) texts ≡ true → number_in texts text < length texts
number_in-lt [] text e = absurd (false≢true e)
number_in-lt (first ∷ texts) text e = grind (arith, common_steps, number_in-lt texts text)

-- more texts change no number
pub number_in-more : (texts more : List (List ℕ)) (text : List ℕ)
    → list_any (bytes_eq text) texts ≡ true → number_in (texts ++ more) text ≡ number_in texts text
number_in-more [] more text some = absurd (false≢true some)
number_in-more (first ∷ texts) more text some = grind (arith, common_steps, number_in-more texts more text)

-- the text at a text's number
pub text_of_number : (texts : List (List ℕ)) (text : List ℕ)
    → number_in texts text < length texts → slice_index_or texts (number_in texts text) [] ≡ text
text_of_number [] text lt = absurd (omega (arith, lt))
text_of_number (first ∷ texts) text lt = search (rules, same_from_is_same_name, text_of_number texts text)

pub any_push : (texts : List (List ℕ)) (text q : List ℕ)
    → list_any (bytes_eq q) (texts ++ text ∷ []) ≡ (list_any (bytes_eq q) texts || bytes_eq q text)
any_push [] text q = or-false (bytes_eq q text)
any_push (first ∷ texts) text q = grind (arith, common_steps, any_push texts text q)

number_at_end : (texts : List (List ℕ)) (text : List ℕ)
    → list_any (bytes_eq text) texts ≡ false → number_in (texts ++ text ∷ []) text ≡ length texts
number_at_end [] text none = ap (λ b. cond b 0 (0 + 1)) (is_same_name-self text)
number_at_end (first ∷ texts) text none = grind (arith, common_steps, number_at_end texts text)

pub turned : (a b : List ℕ) → bytes_eq a b ≡ false → bytes_eq b a ≡ false
turned a b none = search (rules, false≢true, same_from_is_same_name, is_same_name-self)

-- where a text that is lent stands among others
place_of_text : (items : List (Bor (List ℕ))) (text : List ℕ)
    → position_or_len (λ (item : Bor (List ℕ)). bytes_eq text item.now) items
    ≡ number_in (map (λ (item : Bor (List ℕ)). item.now) items) text
place_of_text [] text = refl
place_of_text (first ∷ items) text = grind (arith, common_steps, place_of_text items text)

-- what a set of texts answers for a text
pub number_answered : (items : List (Bor (List ℕ))) (text : List ℕ)
    → unwrap_or (position (λ (item : Bor (List ℕ)). bytes_eq text item.now) items) (length items)
    ≡ number_in (map (λ (item : Bor (List ℕ)). item.now) items) text
number_answered items text = grind (arith, common_steps, length-map, number_in-le, place_of_text)

-- a text that is lent, put into a set of others
pub text_inserted : (items : List (Bor (List ℕ))) (item : Bor (List ℕ))
    → map (λ (text : Bor (List ℕ)). text.now) (insert_key (λ (left right : Bor (List ℕ)). bytes_eq left.now right.now)
    items item) ≡ with_text (map (λ (text : Bor (List ℕ)). text.now) items) item.now
text_inserted items item = grind (arith, common_steps, map-append, list_any-map)

-- ---- texts added in turn

pub with_texts-append : (texts more others : List (List ℕ))
    → with_texts texts (more ++ others) ≡ with_texts (with_texts texts more) others
with_texts-append texts [] others = refl
with_texts-append texts (text ∷ more) others = with_texts-append (with_text texts text) more others

-- adding a text leaves it the number that it has, or would have
pub number_in-with : (texts : List (List ℕ)) (text : List ℕ)
    → number_in (with_text texts text) text ≡ number_in texts text
number_in-with texts text = grind (arith, common_steps, number_in-missing, number_at_end)

-- a text that is there keeps its number as another comes
pub number_in-kept : (texts : List (List ℕ)) (text q : List ℕ)
    → list_any (bytes_eq q) texts ≡ true → number_in (with_text texts text) q ≡ number_in texts q
number_in-kept texts text q there = grind (arith, common_steps, number_in-more)

-- a text whose number is before the end is there
pub there_inside : (texts : List (List ℕ)) (text : List ℕ)
    → number_in texts text < length texts → list_any (bytes_eq text) texts ≡ true
there_inside texts text inside = grind (arith, common_steps, number_in-missing)

pub with_text-there : (texts : List (List ℕ)) (text : List ℕ)
    → number_in texts text < length texts → with_text texts text ≡ texts
with_text-there texts text inside = ap (λ b. cond b texts (texts ++ text ∷ [])) (there_inside texts text inside)

-- a text whose number is not before the end is missing
pub none_at_end : (texts : List (List ℕ)) (text : List ℕ)
    → length texts ≤ number_in texts text → list_any (bytes_eq text) texts ≡ false
none_at_end texts text end = grind (arith, common_steps, number_in-lt)

-- ---- a loop over texts that are lent

pub shown_at : (items : List (Bor (List ℕ))) (k : ℕ) (item : Bor (List ℕ))
    → get_or (map (λ (text : Bor (List ℕ)). text.now) items) k item.now ≡ (get_or items k item).now
shown_at [] zero item = refl
shown_at [] (suc k) item = refl
shown_at (first ∷ items) zero item = refl
shown_at (first ∷ items) (suc k) item = shown_at items k item

-- the text that is lent
abbrev pub text_of : Bor (List ℕ) → List ℕ
text_of lent = lent.now

pub next_text : (items : List (Bor (List ℕ))) (texts : List (List ℕ)) (k : ℕ)
    → map (λ (text : Bor (List ℕ)). text.now) items ≡ texts → k < length items
    → take (k + 1) texts ≡ take k texts ++ (get_or items k no_text).now ∷ []
next_text items texts k is lt =
    let long = length-map items (λ (text : Bor (List ℕ)). text.now) in
    ap (take (k + 1)) (sym is)
    ∙ take_more (map (λ (text : Bor (List ℕ)). text.now) items) k [] (omega (arith, long, lt))
    ∙ ap (λ t. take k (map (λ (text : Bor (List ℕ)). text.now) items) ++ t ∷ []) (shown_at items k no_text)
    ∙ ap (λ ts. take k ts ++ (get_or items k no_text).now ∷ []) is

pub next_mapped : {A : Type 0} (f : List ℕ → A) (texts next : List (List ℕ)) (text : List ℕ)
    → next ≡ texts ++ text ∷ [] → map f texts ++ f text ∷ [] ≡ map f next
next_mapped f texts next text is = sym (map-append f texts (text ∷ [])) ∙ ap (map f) (sym is)

pub next_pushed : {A : Type 0}
    (f : List ℕ → A) (old new : List A) (texts next : List (List ℕ)) (text : List ℕ) (made : A)
    → new ≡ old ++ made ∷ [] → made ≡ f text → old ≡ map f texts → next ≡ texts ++ text ∷ [] → new ≡ map f next
next_pushed f old new texts next text made pushed same so_far is =
    pushed ∙ ap (λ m. old ++ m ∷ []) same ∙ ap (λ items. items ++ f text ∷ []) so_far ∙ next_mapped f texts next text is

pub next_with : (start old new : List (List ℕ)) (texts next : List (List ℕ)) (text : List ℕ)
    → new ≡ with_text old text → old ≡ with_texts start texts → next ≡ texts ++ text ∷ [] → new ≡ with_texts start next
next_with start old new texts next text added so_far is = grind (arith, common_steps, with_texts-append)
