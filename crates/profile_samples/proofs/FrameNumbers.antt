-- The frames of a profile's locations by numbers.
use Rattle.std.proofs.lemmas.Grind.{common_steps, flat_map-append}
use Rattle.std.proofs.Common.{◌≡◌, ◌≢◌, ℕ, zero, suc, ◌+◌, ◌*◌, ◌<◌, ◌≤◌, inl, inr, drop, take, set, length-append}
use Rattle.std.proofs.Common.{length-set, take-append-drop, Bool, true, false, cond, eqb, ◌||◌, List, [], ◌∷◌, ◌++◌}
use Rattle.std.proofs.Common.{length, map, get_or, Option, Some, None, refl, sym, ap, ◌∙◌, subst, arith, All}
use Rattle.std.specs.Prelude.{ℤ, pos, negsuc, MatchOption, is_some, not, reverse, slice_get, slice_index_or, unwrap_or}
use Rattle.std.specs.Prelude.{if◌then◌else◌}
use Rattle.std.specs.List.{AllByRecursion, list_any, position_or_len}
use Rattle.std.specs.Option.{option_and_then, option_map, option_or}
use Rattle.std.specs.Str.{IsUtf8, bytes_eq}
use mathlib.Core.List.{map-map}
use Rattle.basics.proofs.Growing.{map_agreeing}
use Rattle.std.proofs.lemmas.Bool.{cases_eq, cond_both, false≢true, eqb-true, eq-eqb, ne_eqb, or_left, or_right}
use Rattle.std.proofs.lemmas.List.{drop_more, flat_map_more, get_or-map, length-map, reverse-append, take_more}
use Rattle.std.proofs.lemmas.Option.{slice_get-map}
use Rattle.std.proofs.lemmas.List.Elements.{All-cons, All-from_recursion, All-head, All-nil, All-push, All-set}
use Rattle.std.proofs.lemmas.List.Elements.{All-tail}
use Rattle.std.proofs.lemmas.List.Elements.{All-weaker, recursion_from_All}
use Rattle.std.proofs.lemmas.List.Folds.{length-flat_map-take, list_any_at}
use Rattle.std.proofs.Math.Bool.{or-false, or_assoc}
use Rattle.std.proofs.Math.ListN as lists
use Rattle.std.proofs.Math.Nat.{mul-suc}
use Rattle.pprof_profile.specs.declared.messages.Draft.{Draft}
use Rattle.pprof_profile.specs.declared.messages.Function.{Function}
use Rattle.pprof_profile.specs.declared.messages.Location.{Location}
use Rattle.pprof_profile.specs.declared.messages.Line.{Line}
use Rattle.profile_rows.specs.Names.{IsName, cleaned_byte, cleaned_name_of, is_same_name}
use Rattle.profile_rows.proofs.Cleaning.{IsName-cleaned}
use Rattle.profile_rows.specs.Rows.{has_name}
use Rattle.profile_rows.proofs.SameNames.{is_same_name-self}
use Rattle.profile_samples.specs.Samples.{address_name, first_name, frames_at, frames_from, frames_of_id, frames_of_ids}
use Rattle.profile_samples.specs.Samples.{function_name, item_with, line_name, location_frames, named_by}
use Rattle.profile_samples.specs.Samples.{sample_stack_of, string_at}
use Rattle.name_counts.specs.Tallies.{AreSingle, has_number}
use Rattle.name_counts.specs.TextTables.{names_at, number_in, with_text, with_texts}
use Rattle.name_counts.proofs.TallyLaws.{has_number-push}
use Rattle.profile_samples.specs.NameNumbers.{AreFrameNumbers, AreFunctionNumbers, address_names, address_of}
use Rattle.profile_samples.specs.NameNumbers.{frame_names, is_name_of, lacks_name, names_function, needs_address}
use Rattle.profile_samples.specs.NameNumbers.{string_names_from, given, number_at, number_by, name_number}
use Rattle.profile_samples.specs.NameNumbers.{numbers_of, numbers_of_id, once_of, string_names, string_numbers}
use Rattle.profile_samples.specs.NameNumbers.{with_number, with_numbers}
use Rattle.profile_samples.proofs.ExportLaws.{AllStand, number_in-withs, stands_in, with_text-own, with_texts-own}
use Rattle.profile_samples.proofs.ExportLaws.{with_texts-stands}
use Rattle.name_counts.proofs.NumberedRows.{none_single, single_with}
use Rattle.profile_rows.proofs.Members.{list_any-map}
use Rattle.name_counts.proofs.TextNumbers.{number_in-with, with_texts-append, number_in-lt}
use Rattle.name_counts.proofs.TextNumbers.{text_of_number}
use Rattle.profile_samples.proofs.ItemsById.{IsName-address, item_with-all, item_with-found}

-- ---- numbers of strings and functions

place_of : (texts : List (List ℕ)) (text : List ℕ) → position_or_len (is_same_name text) texts ≡ number_in texts text
place_of [] text = refl
place_of (first ∷ texts) text = grind (arith, common_steps, place_of texts text)

-- the place at which a text is put in is its number, which it keeps as more come
pub number_put : (texts more : List (List ℕ)) (text : List ℕ)
    → position_or_len (is_same_name text) texts ≡ number_in (with_texts (with_text texts text) more) text
number_put texts more text =
    place_of texts text ∙ sym (number_in-with texts text)
    ∙ sym (number_in-withs (with_text texts text) more text (with_text-own texts text))

-- what is true of some texts and of more is true of all
pub texts_all : (P : List ℕ → Type 0) (start more : List (List ℕ))
    → All P start → All P more → All P (with_texts start more)
texts_all P start [] all rest = all
texts_all P start (text ∷ more) all rest = texts_all P (with_text start text) more
    (cond_both (stands_in start text) start (start ++ text ∷ []) (All P) (λ there. all)
    (λ none. All-push P start text all (All-head P text more rest))) (All-tail P text more rest)

-- the name of a string is one
pub named_string : (text : List ℕ) → IsUtf8 text → All IsName (given (cleaned_name_of text ∷ []))
named_string [] utf8 = All-nil IsName
named_string (byte ∷ bytes) utf8 =
    All-cons IsName (map cleaned_byte (byte ∷ bytes)) []
    (IsName-cleaned (byte ∷ bytes) utf8 (omega arith)) (All-nil IsName)

-- so is that of an address
pub named_address : (draft : Draft) (location : Location) → All IsName (given (address_of draft location ∷ []))
named_address draft location =
    cond_both (needs_address draft location.lines) (Some (address_name location.address)) None
    (λ name. All IsName (given (name ∷ [])))
    (λ needs. All-cons IsName (address_name location.address) [] (IsName-address location.address) (All-nil IsName))
    (λ none. All-nil IsName)

-- ---- names that are put in one by one

-- the next name is put in, and the names to come give the same names in all
pub name_put : (names new last all : List (List ℕ)) (name : Option (List ℕ)) (rest : List (Option (List ℕ)))
    → new ≡ with_texts names (given (name ∷ [])) → with_texts (with_texts names (given (name ∷ rest))) last ≡ all
    → with_texts (with_texts new (given rest)) last ≡ all
name_put names new last all None rest is front = rw is front
name_put names new last all (Some name) rest is front = rw is front

-- its number is that among all names
pub number_kept : (new last all : List (List ℕ)) (name : Option (List ℕ)) (rest : List (Option (List ℕ)))
    (number : Option ℕ) → ((more : List (List ℕ)) → number ≡ option_map (number_in (with_texts new more)) name)
    → with_texts (with_texts new (given rest)) last ≡ all → number ≡ option_map (number_in all) name
number_kept new last all name rest number numbered front =
    numbered (given rest ++ last)
    ∙ ap (λ texts. option_map (number_in texts) name) (with_texts-append new (given rest) last ∙ front)

-- the names so far, and the numbers of those of strings, where these are the names of the strings to come
pub record AreNamedSoFar (draft : Draft) (names : List (List ℕ)) (numbers : List (Option ℕ))
    (rest : List (Option (List ℕ))) : Type 0 where
  pub front : with_texts (with_texts names (given rest)) (given (address_names draft)) ≡ frame_names draft
  pub each : All IsName names
  pub numbers_are : numbers ++ map (option_map (name_number draft)) rest ≡ string_numbers draft

pub string_named : (draft : Draft) (names new : List (List ℕ)) (numbers next : List (Option ℕ))
    (name : Option (List ℕ)) (number : Option ℕ) (rest : List (Option (List ℕ)))
    → AreNamedSoFar draft names numbers (name ∷ rest) → new ≡ with_texts names (given (name ∷ []))
    → All IsName (given (name ∷ [])) → next ≡ numbers ++ number ∷ []
    → ((more : List (List ℕ)) → number ≡ option_map (number_in (with_texts new more)) name)
    → AreNamedSoFar draft new next rest
string_named draft names new numbers next name number rest so_far new_is named next_is numbered =
    let front = name_put names new (given (address_names draft)) (frame_names draft) name rest new_is so_far.front in
    let kept = number_kept new (given (address_names draft)) (frame_names draft) name rest number numbered front in
    record {
      front = front;
      each = rw new_is (texts_all IsName names (given (name ∷ [])) so_far.each named);
      numbers_are = grind (arith, common_steps, kept, next_is, so_far.numbers_are);
    }

-- the name of the next string, and those of the strings to come
pub string_next : (functions : List Function) (strings : List (List ℕ)) (at : ℕ) (string : List ℕ)
    (name : Option (List ℕ)) → at < length strings → string ≡ get_or strings at string
    → name ≡ (if names_function functions at then cleaned_name_of string else None)
    → string_names_from functions at (drop at strings)
    ≡ name ∷ string_names_from functions (at + 1) (drop (at + 1) strings)
string_next functions strings at string name lt is named =
    rw (drop_more strings at string lt, ← is, named) refl

-- where a string names a function, its name stands at its index
name_from : (functions : List Function) (at : ℕ) (strings : List (List ℕ)) (index : ℕ)
    → names_function functions (at + index) ≡ true
    → slice_index_or (string_names_from functions at strings) index None
    ≡ cleaned_name_of (slice_index_or strings index [])
name_from functions at [] zero is = refl
name_from functions at [] (suc index) is = refl
name_from functions at (string ∷ strings) zero is = grind (arith, common_steps)
name_from functions at (string ∷ strings) (suc index) is =
    name_from functions (at + 1) strings index (subst (λ n. names_function functions n ≡ true) (omega arith) is)

name_at : (draft : Draft) (index : ℕ) → names_function draft.functions index ≡ true
    → slice_index_or (string_names draft) index None ≡ cleaned_name_of (slice_index_or draft.strings index [])
name_at draft index named = name_from draft.functions 0 draft.strings index
    (subst (λ n. names_function draft.functions n ≡ true) (omega arith) named)

string_number : (draft : Draft) (index : ℤ)
    → ((at : ℕ) → index ≡ pos at → names_function draft.functions at ≡ true)
    → number_at (string_numbers draft) index
    ≡ option_map (name_number draft) (cleaned_name_of (string_at draft.strings index))
string_number draft (pos index) named =
    lists.get_or-map (option_map (name_number draft)) (string_names draft) index None
    ∙ ap (option_map (name_number draft)) (name_at draft index (named index refl))
string_number draft (negsuc index) named = refl

option_or-map : (f : List ℕ → ℕ) (a b : Option (List ℕ))
    → option_or (option_map f a) (option_map f b) ≡ option_map f (first_name a b)
option_or-map f (Some name) b = refl
option_or-map f None b = refl

-- a string that names this function names a function of the profile
abbrev IsFunctionOf : Draft → Function → Type 0
IsFunctionOf draft function = (at : ℕ) → is_name_of function at ≡ true → names_function draft.functions at ≡ true

each_is : (draft : Draft) → All (IsFunctionOf draft) draft.functions
each_is draft k d lt at is = list_any_at (λ function. is_name_of function at) draft.functions k d lt is

name_is : (draft : Draft) (function : Function) (at : ℕ)
    → IsFunctionOf draft function → function.name ≡ pos at → names_function draft.functions at ≡ true
name_is draft function at named is = named at (grind (arith, common_steps, eq-eqb, or_left))

system_name_is : (draft : Draft) (function : Function) (at : ℕ)
    → IsFunctionOf draft function → function.system_name ≡ pos at → names_function draft.functions at ≡ true
system_name_is draft function at named is = named at (grind (arith, common_steps, eq-eqb, or_right))

number_by-name : (draft : Draft) (function : Function) → IsFunctionOf draft function
    → number_by (string_numbers draft) function ≡ option_map (name_number draft) (function_name draft.strings function)
number_by-name draft function named =
    let name = string_number draft function.name (λ at. name_is draft function at named) in
    let system_name = string_number draft function.system_name (λ at. system_name_is draft function at named) in
    grind (arith, common_steps, name, system_name, option_or-map)

pub function_numbers_are : (draft : Draft) → map (number_by (string_numbers draft)) draft.functions
    ≡ map (λ (function : Function). option_map (name_number draft) (function_name draft.strings function))
    draft.functions
function_numbers_are draft =
    map_agreeing (number_by (string_numbers draft))
    (λ (function : Function). option_map (name_number draft) (function_name draft.strings function)) draft.functions
    (All-weaker (IsFunctionOf draft) _ (number_by-name draft) draft.functions (each_is draft))

-- ---- the names stand among those that are numbered

given_at : (options : List (Option (List ℕ))) (index : ℕ) (name : List ℕ)
    → slice_index_or options index None ≡ Some name → stands_in (given options) name ≡ true
given_at [] zero name e = cc
given_at [] (suc index) name e = cc
given_at (None ∷ options) zero name e = cc
given_at (Some other ∷ options) zero name e = grind (arith, common_steps, is_same_name-self, or_left)
given_at (None ∷ options) (suc index) name e = given_at options index name e
given_at (Some other ∷ options) (suc index) name e =
    or_right (bytes_eq name other) (stands_in (given options) name) (given_at options index name e)

text_stands : (draft : Draft) (index : ℤ) (name : List ℕ)
    → ((at : ℕ) → index ≡ pos at → names_function draft.functions at ≡ true)
    → cleaned_name_of (string_at draft.strings index) ≡ Some name → stands_in (frame_names draft) name ≡ true
text_stands draft (pos index) name named e =
    with_texts-stands (with_texts [] (given (string_names draft))) (given (address_names draft)) name
    (with_texts-own [] (given (string_names draft)) name (given_at (string_names draft) index name
    (name_at draft index (named index refl) ∙ e)))
text_stands draft (negsuc index) name named e = cc

first_stands : (draft : Draft) (a b : Option (List ℕ)) (name : List ℕ) → (a ≡ Some name
    → stands_in (frame_names draft) name ≡ true) → (b ≡ Some name → stands_in (frame_names draft) name ≡ true)
    → first_name a b ≡ Some name → stands_in (frame_names draft) name ≡ true
first_stands draft (Some first) b name h k e = h e
first_stands draft None b name h k e = k e

functions_stand : (draft : Draft) (id : ℕ) (name : List ℕ)
    → named_by draft.strings (item_with (λ function. function.id) id draft.functions) ≡ Some name
    → stands_in (frame_names draft) name ≡ true
functions_stand draft id name =
    item_with-all (λ (function : Function). function.id) (λ found. named_by draft.strings found ≡ Some name
    → stands_in (frame_names draft) name ≡ true) draft.functions id (λ e. cc)
    (All-weaker (IsFunctionOf draft) _ (λ function named.
    first_stands draft (cleaned_name_of (string_at draft.strings function.name))
    (cleaned_name_of (string_at draft.strings function.system_name)) name
    (text_stands draft function.name name (λ at. name_is draft function at named))
    (text_stands draft function.system_name name (λ at. system_name_is draft function at named)))
    draft.functions (each_is draft))

or_else_stands : (names : List (List ℕ)) (found : Option (List ℕ)) (address : List ℕ)
    → ((name : List ℕ) → found ≡ Some name → stands_in names name ≡ true)
    → (not (is_some found) ≡ true → stands_in names address ≡ true) → stands_in names (unwrap_or found address) ≡ true
or_else_stands names (Some name) address h k = h name refl
or_else_stands names None address h k = k refl

lines_stand : (draft : Draft) (address : ℕ) (lines : List Line)
    → (list_any (lacks_name draft) lines ≡ true → stands_in (frame_names draft) (address_name address) ≡ true)
    → AllStand (frame_names draft) (map (line_name draft.strings draft.functions address) lines)
lines_stand draft address [] h = tt
lines_stand draft address (line ∷ lines) h = (
  or_else_stands (frame_names draft) (named_by draft.strings
      (item_with (λ function. function.id) line.function_id draft.functions)) (address_name address)
      (λ name. functions_stand draft line.function_id name)
      (λ lacks. h (or_left (lacks_name draft line) (list_any (lacks_name draft) lines) lacks)),
  lines_stand draft address lines
      (λ later. h (or_right (lacks_name draft line) (list_any (lacks_name draft) lines) later)),
)

frames_stand : (draft : Draft) (address : ℕ) (lines : List Line)
    → (needs_address draft lines ≡ true → stands_in (frame_names draft) (address_name address) ≡ true)
    → AllStand (frame_names draft) (frames_from draft.strings draft.functions address lines)
frames_stand draft address [] h = (h refl, tt)
frames_stand draft address (line ∷ lines) h = lines_stand draft address (line ∷ lines) h

pub locations_stand : (draft : Draft)
    → All (λ (location : Location). AllStand (frame_names draft) (location_frames draft location)) draft.locations
locations_stand draft k d lt =
    let location = get_or draft.locations k d in
    frames_stand draft location.address location.lines (λ needs.
    with_texts-own (with_texts [] (given (string_names draft))) (given (address_names draft))
    (address_name location.address) (given_at (address_names draft) k (address_name location.address)
    (get_or-map (address_of draft) draft.locations k d None lt
    ∙ ap (λ b. cond b (Some (address_name location.address)) None) needs)))

-- ---- numbers of names

pub frame_names-single : (draft : Draft) → AreSingle (frame_names draft)
frame_names-single draft = grind (arith, common_steps, none_single, single_with)

below : (names frames : List (List ℕ))
    → AllStand names frames → AllByRecursion (λ number. number < length names) (map (number_in names) frames)
below names [] all = tt
below names (frame ∷ frames) all = (number_in-lt names frame all.0, below names frames all.1)

pub numbers_below : (names frames : List (List ℕ))
    → AllStand names frames → All (λ number. number < length names) (map (number_in names) frames)
numbers_below names frames all =
    All-from_recursion (λ number. number < length names) (map (number_in names) frames) (below names frames all)

-- ---- each number once

pub with_numbers-push : (start numbers : List ℕ) (number : ℕ)
    → with_numbers start (numbers ++ number ∷ []) ≡ with_number (with_numbers start numbers) number
with_numbers-push start [] number = refl
with_numbers-push start (first ∷ numbers) number = with_numbers-push (with_number start first) numbers number

any_there : (test : ℕ → Bool) (numbers : List ℕ) (number : ℕ)
    → has_number number numbers ≡ true → test number ≡ true → list_any test numbers ≡ true
any_there test [] number e t = absurd (false≢true e)
any_there test (first ∷ numbers) number e t =
    grind (arith, common_steps, eqb-true, or_left, or_right, any_there test numbers number)

any_with : (test : ℕ → Bool) (numbers : List ℕ) (number : ℕ)
    → list_any test (with_number numbers number) ≡ (list_any test numbers || test number)
any_with test numbers number = grind (arith, common_steps, any_there, or-false)

any_withs : (test : ℕ → Bool) (start numbers : List ℕ)
    → list_any test (with_numbers start numbers) ≡ (list_any test start || list_any test numbers)
any_withs test start [] = sym (or-false (list_any test start))
any_withs test start (number ∷ numbers) =
    grind (arith, common_steps, or_assoc, any_with, any_withs test (with_number start number) numbers)

all_withs : (P : ℕ → Type 0) (start numbers : List ℕ)
    → All P start → All P numbers → All P (with_numbers start numbers)
all_withs P start [] all more = all
all_withs P start (number ∷ numbers) all more = all_withs P (with_number start number) numbers
    (cond_both (has_number number start) start (start ++ number ∷ []) (All P) (λ there. all)
    (λ none. All-push P start number all (All-head P number numbers more))) (All-tail P number numbers more)

-- ---- a location by numbers

-- the names at the numbers of names are these names
named_again : (names frames : List (List ℕ)) → AllStand names frames
    → names_at names (map (number_in names) frames) ≡ frames
named_again names [] all = refl
named_again names (frame ∷ frames) all =
    grind (arith, common_steps, number_in-lt, text_of_number, named_again names frames all.1)

-- what numbers say of the frames whose they are
pub record AreNumbersOf (names frames : List (List ℕ)) (numbers : List ℕ) : Type 0 where
  pub depth : length numbers ≡ length frames
  pub all_inside : All (λ number. number < length names) numbers
  pub all_are : names_at names numbers ≡ frames
  pub inside : All (λ number. number < length names) (once_of numbers)
  pub same : (q : List ℕ) → has_name q (names_at names (once_of numbers)) ≡ has_name q frames
  pub some : 0 < length numbers
  pub leaf_inside : slice_index_or numbers 0 0 < length names
  pub callers : List (List ℕ)
  pub leaf : frames ≡ slice_index_or names (slice_index_or numbers 0 0) [] ∷ callers

numbered : (names : List (List ℕ)) (frame : List ℕ) (frames : List (List ℕ)) → AllStand names (frame ∷ frames)
    → AreNumbersOf names (frame ∷ frames) (map (number_in names) (frame ∷ frames))
numbered names frame frames all = record {
  depth = length-map (frame ∷ frames) (number_in names);
  all_inside = numbers_below names (frame ∷ frames) all;
  all_are = named_again names (frame ∷ frames) all;
  inside = all_withs (λ number. number < length names) [] (map (number_in names) (frame ∷ frames))
      (All-nil (λ number. number < length names)) (numbers_below names (frame ∷ frames) all);
  same = λ q. list_any-map (is_same_name q) (λ number. slice_index_or names number [])
      (once_of (map (number_in names) (frame ∷ frames)))
      ∙ any_withs (λ number. is_same_name q (slice_index_or names number [])) []
      (map (number_in names) (frame ∷ frames))
      ∙ sym (list_any-map (is_same_name q) (λ number. slice_index_or names number [])
      (map (number_in names) (frame ∷ frames)))
      ∙ ap (has_name q) (named_again names (frame ∷ frames) all);
  some = omega arith;
  leaf_inside = number_in-lt names frame all.0;
  callers = frames;
  leaf = ap (λ name. name ∷ frames) (sym (text_of_number names frame (number_in-lt names frame all.0)));
}

location_numbered : (draft : Draft) (address : ℕ) (lines : List Line)
    → AllStand (frame_names draft) (frames_from draft.strings draft.functions address lines)
    → AreNumbersOf (frame_names draft) (frames_from draft.strings draft.functions address lines)
    (map (name_number draft) (frames_from draft.strings draft.functions address lines))
location_numbered draft address [] all = numbered (frame_names draft) (address_name address) [] all
location_numbered draft address (line ∷ lines) all =
    numbered (frame_names draft) (line_name draft.strings draft.functions address line)
    (map (line_name draft.strings draft.functions address) lines) all

-- what was found by an id is what the frames of its location are by numbers
abbrev pub IsFoundOf : Draft → List (List ℕ) → Option (List ℕ) → Type 0
IsFoundOf draft frames None = frames ≡ []
IsFoundOf draft frames (Some numbers) = AreNumbersOf (frame_names draft) frames numbers

found_in : (draft : Draft) (found : Option Location) → AllStand (frame_names draft) (frames_at draft found)
    → IsFoundOf draft (frames_at draft found) (option_map (numbers_of draft) found)
found_in draft None all = refl
found_in draft (Some location) all = location_numbered draft location.address location.lines all

pub found_numbers : (draft : Draft) (id : ℕ) (found : Option (List ℕ))
    → found ≡ numbers_of_id draft id → IsFoundOf draft (frames_of_id draft id) found
found_numbers draft id found is =
    subst (IsFoundOf draft (frames_of_id draft id)) (sym is)
    (found_in draft (item_with (λ location. location.id) id draft.locations)
    (item_with-all (λ (location : Location). location.id)
    (λ place. AllStand (frame_names draft) (frames_at draft place)) draft.locations id tt (locations_stand draft)))

-- so is what was found with each number once
abbrev pub AreNamesOf : Draft → List (List ℕ) → Option (List ℕ) → Type 0
AreNamesOf draft frames None = frames ≡ []
AreNamesOf draft frames (Some names) = (numbers : List ℕ)
    × (names ≡ once_of numbers) × AreNumbersOf (frame_names draft) frames numbers

pub found_names : (draft : Draft) (id : ℕ) (found : Option (List ℕ))
    → found ≡ option_map once_of (numbers_of_id draft id) → AreNamesOf draft (frames_of_id draft id) found
found_names draft id found is =
    subst (AreNamesOf draft (frames_of_id draft id)) (sym is)
    (elim (numbers_of_id draft id) as (λ numbers. IsFoundOf draft (frames_of_id draft id) numbers
    → AreNamesOf draft (frames_of_id draft id) (option_map once_of numbers)) [
      | None ↦ λ none. none
      | Some numbers ↦ λ this. (numbers, refl, this)
    ] (found_numbers draft id (numbers_of_id draft id) refl))

-- ---- what stands at an id

-- the number of the name of the function that stands there
pub function_number : (draft : Draft) (ids : List ℕ) (numbers : List (Option ℕ)) (id : ℕ) (found : Option ℕ)
    → AreFunctionNumbers draft ids numbers
    → MatchOption found ((at : ℕ) → slice_get ids at ≢ Some id) (λ at. slice_get ids at ≡ Some id)
    → option_map (name_number draft) (named_by draft.strings (item_with (λ function. function.id) id draft.functions))
    ≡ option_and_then (λ number. number) (option_and_then (λ at. slice_get numbers at) found)
function_number draft ids numbers id found this h =
    ap (λ function. option_map (name_number draft) (named_by draft.strings function))
    (item_with-found (λ function. function.id) draft.functions ids id found this.ids_are this.single h)
    ∙ elim found as (λ f. option_map (name_number draft) (named_by draft.strings
    (option_and_then (λ at. slice_get draft.functions at) f))
    ≡ option_and_then (λ number. number) (option_and_then (λ at. slice_get numbers at) f)) [
      | None ↦ refl
      | Some at ↦ rw (this.numbers_are, slice_get-map _ draft.functions at)
          (elim (slice_get draft.functions at) as (λ f. option_map (name_number draft) (named_by draft.strings f)
          ≡ option_and_then (λ number. number) (option_map (λ (function : Function). option_map (name_number draft)
          (function_name draft.strings function)) f)) [ None ↦ refl | Some function ↦ refl ])
    ]

pub numbers_at : (draft : Draft) (ids : List ℕ) (frames once names : List (List ℕ))
    (id : ℕ) (found : Option ℕ) → AreFrameNumbers draft ids frames once names
    → MatchOption found ((at : ℕ) → slice_get ids at ≢ Some id) (λ at. slice_get ids at ≡ Some id)
    → numbers_of_id draft id ≡ option_and_then (λ at. slice_get frames at) found
numbers_at draft ids frames once names id found this h =
    ap (option_map (numbers_of draft))
    (item_with-found (λ location. location.id) draft.locations ids id found this.ids_are this.single h)
    ∙ elim found as (λ f. option_map (numbers_of draft) (option_and_then (λ at. slice_get draft.locations at) f)
    ≡ option_and_then (λ at. slice_get frames at) f) [
      | None ↦ refl
      | Some at ↦ rw this.frames_are (sym (slice_get-map (numbers_of draft) draft.locations at))
    ]

-- the number of a line's name
abbrev pub line_number : Draft → ℕ → Line → ℕ
line_number draft address line = name_number draft (line_name draft.strings draft.functions address line)

-- the numbers of lines, where there are some
pub numbers_of_lines : (draft : Draft) (address : ℕ) (lines : List Line) → 0 < length lines
    → map (line_number draft address) lines
    ≡ map (name_number draft) (frames_from draft.strings draft.functions address lines)
numbers_of_lines draft address [] some = absurd (omega (arith, some))
numbers_of_lines draft address (line ∷ lines) some =
    sym (map-map (name_number draft) (line_name draft.strings draft.functions address) (line ∷ lines))

-- ---- the frames of ids, one by one

pub frames-more : (draft : Draft) (ids : List ℕ) (i : ℕ) → i < length ids
    → frames_of_ids draft (take (i + 1) ids) ≡ frames_of_ids draft (take i ids) ++ frames_of_id draft (get_or ids i 0)
frames-more draft ids i lt = ap (frames_of_ids draft) (take_more ids i 0 lt)
    ∙ sym (flat_map_more (frames_of_id draft) [] (take i ids) (get_or ids i 0))

pub room_short : (draft : Draft) (ids : List ℕ) (i room : ℕ) (numbers : List ℕ) → i < length ids
    → AreNumbersOf (frame_names draft) (frames_of_id draft (get_or ids i 0)) numbers → room < length numbers
    → room + length (frames_of_ids draft (take i ids)) ≡ 65535 → 65535 < length (frames_of_ids draft ids)
room_short draft ids i room numbers lt this low earlier =
    let depth = this.depth in
    let long = length-flat_map-take (frames_of_id draft) ids i 0 lt in
    omega (arith, depth, long, low, earlier)

pub leaf_first : (draft : Draft) (ids : List ℕ) (i : ℕ) (leaf : List ℕ) (callers : List (List ℕ))
    → i < length ids → frames_of_ids draft (take i ids) ≡ [] → frames_of_id draft (get_or ids i 0) ≡ leaf ∷ callers
    → (rest : List (List ℕ)) × (sample_stack_of draft ids ≡ rest ++ leaf ∷ [])
leaf_first draft ids i leaf callers lt before here =
    let later = frames_of_ids draft (drop (i + 1) ids) in
    let front : frames_of_ids draft (take (i + 1) ids) ≡ leaf ∷ callers =
    frames-more draft ids i lt ∙ rw (before, here) refl in
    let all : frames_of_ids draft ids ≡ (leaf ∷ []) ++ (callers ++ later) =
    ap (frames_of_ids draft) (sym (take-append-drop (i + 1) ids))
    ∙ flat_map-append (frames_of_id draft) (take (i + 1) ids) (drop (i + 1) ids) ∙ ap (λ fs. fs ++ later) front in
    (reverse (callers ++ later), ap reverse all ∙ reverse-append (leaf ∷ []) (callers ++ later))

-- ---- marks

pub record IsOnceSoFar (before : List ℕ) (count mark : ℕ) (marks once : List ℕ) : Type 0 where
  pub once_is : once ≡ once_of before
  pub count_is : length marks ≡ count
  pub marked : All (λ other. other ≤ mark) marks
  pub seen : (number : ℕ) → eqb (get_or marks number 0) mark ≡ has_number number once

seen-push : (marks once : List ℕ) (number mark n : ℕ)
    → eqb (get_or marks n 0) mark ≡ has_number n once → number < length marks
    → eqb (get_or (set marks number mark) n 0) mark ≡ has_number n (once ++ number ∷ [])
seen-push marks once number mark n so_far lt = elim (cases_eq n number) [
  | inl same ↦ grind (arith, common_steps, eq-eqb, has_number-push, or_right)
  | inr apart ↦ grind (arith, common_steps, ne_eqb, has_number-push, or-false)
]

pub once-push : (before next : List ℕ) (count mark number : ℕ) (marks once : List ℕ)
    → IsOnceSoFar before count mark marks once → next ≡ before ++ number ∷ [] → number < length marks
    → get_or marks number 0 ≢ mark → IsOnceSoFar next count mark (set marks number mark) (once ++ number ∷ [])
once-push before next count mark number marks once so_far is lt other =
    let none : has_number number once ≡ false = sym (so_far.seen number) ∙ ne_eqb (get_or marks number 0) mark other in
    record {
      once_is = grind (arith, common_steps, none, so_far.once_is, is, with_numbers-push);
      count_is = length-set marks number mark ∙ so_far.count_is;
      marked = All-set (λ other. other ≤ mark) marks number mark (omega arith) so_far.marked;
      seen = λ n. seen-push marks once number mark n (so_far.seen n) lt;
    }

pub once-same : (before next : List ℕ) (count mark number : ℕ) (marks once : List ℕ)
    → IsOnceSoFar before count mark marks once → next ≡ before ++ number ∷ []
    → get_or marks number 0 ≡ mark → IsOnceSoFar next count mark marks once
once-same before next count mark number marks once so_far is here =
    grind (arith, common_steps, eq-eqb, with_numbers-push)

-- ---- lines that lack a name

-- a location with a line that lacks a name needs its address
lacking : (draft : Draft) (lines : List Line) (index : ℕ) (none : Line) → index < length lines
    → lacks_name draft (get_or lines index none) ≡ true → needs_address draft lines ≡ true
lacking draft [] index none lt lacks = refl
lacking draft (line ∷ lines) index none lt lacks = list_any_at (lacks_name draft) (line ∷ lines) index none lt lacks

or_else_numbered : (f : List ℕ → ℕ) (found : Option (List ℕ)) (name : List ℕ) (number : ℕ)
    → (not (is_some found) ≡ true → number ≡ f name) → unwrap_or (option_map f found) number ≡ f (unwrap_or found name)
or_else_numbered f (Some found) name number h = refl
or_else_numbered f None name number h = h refl

-- the number of a line's name, by that of its address
pub line_numbered : (draft : Draft) (address number : ℕ) (lines : List Line) (index : ℕ) (none : Line)
    → index < length lines → (needs_address draft lines ≡ true → number ≡ name_number draft (address_name address))
    → unwrap_or (option_map (name_number draft) (named_by draft.strings (item_with (λ function. function.id)
    (get_or lines index none).function_id draft.functions))) number
    ≡ line_number draft address (get_or lines index none)
line_numbered draft address number lines index none lt h =
    or_else_numbered (name_number draft) (named_by draft.strings (item_with (λ function. function.id)
    (get_or lines index none).function_id draft.functions)) (address_name address) number
    (λ lacks. h (lacking draft lines index none lt lacks))

-- ---- all locations

pub all_named : (draft : Draft) → All (λ (location : Location). All
    (λ number. number < length (frame_names draft)) (numbers_of draft location)) draft.locations
all_named draft =
    All-weaker (λ (location : Location). AllStand (frame_names draft) (location_frames draft location))
    (λ (location : Location). All (λ number. number < length (frame_names draft)) (numbers_of draft location))
    (λ location. numbers_below (frame_names draft) (location_frames draft location))
    draft.locations (locations_stand draft)

-- ---- the deepest location

deepest_bounds : (draft : Draft) (deepest : ℕ) (locations : List Location)
    → AllByRecursion (λ (numbers : List ℕ). length numbers ≤ deepest) (map (numbers_of draft) locations)
    → (id : ℕ) → length (frames_at draft (item_with (λ (location : Location). location.id) id locations)) ≤ deepest
deepest_bounds draft deepest [] all id = omega arith
deepest_bounds draft deepest (location ∷ locations) all id =
    grind (arith, common_steps, length-map, deepest_bounds draft deepest locations all.1 id)

-- a location has no more frames than the deepest
pub within_deepest : (draft : Draft) (frames : List (List ℕ)) (deepest : ℕ)
    → frames ≡ map (numbers_of draft) draft.locations → All (λ (numbers : List ℕ). length numbers ≤ deepest) frames
    → (id : ℕ) → length (frames_of_id draft id) ≤ deepest
within_deepest draft frames deepest frames_are depths id =
    grind (arith, common_steps, recursion_from_All, deepest_bounds)

-- so many locations have no more frames than so many of the deepest
pub all_within : (draft : Draft) (deepest : ℕ) → ((id : ℕ) → length (frames_of_id draft id) ≤ deepest)
    → (ids : List ℕ) → length (frames_of_ids draft ids) ≤ deepest * length ids
all_within draft deepest each [] = omega arith
all_within draft deepest each (id ∷ ids) =
    grind (arith, common_steps, mul-suc, length-append, all_within draft deepest each ids)
