-- The profile of rows is valid, and its rows are those rows.
use Rattle.std.proofs.lemmas.Grind.{common_steps}
use Rattle.std.proofs.Common.{◌≡◌, ℕ, zero, suc, ◌<◌, ◌≤◌, Bool, true, false, ◌||◌, eqb, List, [], ◌∷◌}
use Rattle.std.proofs.Common.{◌+◌, ◌++◌, Bor, get_or, length, map, refl, sym, ap, ◌∙◌, subst, arith}
use Rattle.std.specs.Prelude.{pos, Some, ◌==◌, reverse, slice_get, slice_index_or}
use Rattle.std.specs.List.{All, AllByRecursion, IsDistinct, list_all, list_any, flat_map}
use Rattle.std.specs.Str.{bytes_eq}
use mathlib.Core.List.{map-map}
use Rattle.std.proofs.lemmas.Bool.{and_parts, cond_both, eq-eqb, ne_eqb, lt-ltb, false≢true, or_left, or_right}
use Rattle.std.proofs.lemmas.List.{length-map, reverse-reverse}
use Rattle.std.proofs.lemmas.List.Elements.{recursion_from_All}
use Rattle.std.proofs.lemmas.List.Folds.{list_all-map}
use Rattle.pprof_profile.specs.Valid.{IsValidDraft, begins_with_empty, each_has_values, function_indexes, has_double}
use Rattle.pprof_profile.specs.Valid.{is_index, is_known, is_nonempty, is_none_or, names_functions, names_locations}
use Rattle.pprof_profile.specs.Valid.{sample_indexes, value_type_indexes}
use Rattle.profile_rows.specs.Names.{IsName, is_same_name}
use Rattle.name_counts.specs.Tallies.{AreSingle}
use Rattle.profile_rows.specs.Values.{Row, value_of}
use Rattle.profile_samples.specs.Batches.{AreRowsOfSamples}
use Rattle.profile_samples.specs.Samples.{IsRowOfSample, frames_of_id, item_with}
use Rattle.name_counts.specs.TextTables.{no_text, number_in, with_text, with_texts}
use Rattle.profile_samples.specs.Export.{KindAndUnit, exported_function, exported_location, exported_profile_of}
use Rattle.profile_samples.specs.Export.{exported_sample, exported_type, id_in, names_of, profile_with}
use Rattle.profile_samples.specs.Export.{strings_of, unit_texts}
use Rattle.profile_rows.proofs.Cleaning.{cleaned-name}
use Rattle.name_counts.proofs.NumberedRows.{none_single, single_with}
use Rattle.profile_rows.proofs.SameNames.{same_from_is_same_name, is_same_name-self}
use Rattle.profile_rows.proofs.Members.{list_any-map}
use Rattle.name_counts.proofs.TallyLaws.{number_in-own}
use Rattle.name_counts.proofs.TextNumbers.{any_push, number_in-kept, number_in-lt, shown_at, text_of_number}
use Rattle.pprof_profile.specs.declared.messages.Function.{Function}
use Rattle.pprof_profile.specs.declared.messages.Location.{Location}

-- whether a text stands among texts
abbrev pub stands_in : List (List ℕ) → List ℕ → Bool
stands_in texts text = list_any (bytes_eq text) texts

-- each of some texts does
abbrev pub AllStand : List (List ℕ) → List (List ℕ) → Type 0
AllStand texts more = AllByRecursion (λ text. stands_in texts text ≡ true) more

-- ---- texts that are added stand there, each once

pub with_text-stands : (texts : List (List ℕ)) (text q : List ℕ)
    → stands_in texts q ≡ true → stands_in (with_text texts text) q ≡ true
with_text-stands texts text q e = grind (arith, common_steps, any_push, or_left)

pub with_text-own : (texts : List (List ℕ)) (text : List ℕ) → stands_in (with_text texts text) text ≡ true
with_text-own texts text = grind (arith, common_steps, is_same_name-self, any_push, or_right)

pub with_texts-stands : (texts more : List (List ℕ)) (q : List ℕ)
    → stands_in texts q ≡ true → stands_in (with_texts texts more) q ≡ true
with_texts-stands texts [] q e = e
with_texts-stands texts (text ∷ more) q e =
    with_texts-stands (with_text texts text) more q (with_text-stands texts text q e)

pub with_texts-own : (texts more : List (List ℕ)) (q : List ℕ)
    → stands_in more q ≡ true → stands_in (with_texts texts more) q ≡ true
with_texts-own texts [] q e = absurd (false≢true e)
with_texts-own texts (text ∷ more) q e =
    elim (bytes_eq q text) as (λ b. bytes_eq q text ≡ b
    → (b || stands_in more q) ≡ true → stands_in (with_texts (with_text texts text) more) q ≡ true) [
      | true ↦ λ same r. with_texts-stands (with_text texts text) more q
          (subst (λ t. stands_in (with_text texts text) t ≡ true)
          (sym (same_from_is_same_name q text same)) (with_text-own texts text))
      | false ↦ λ other r. with_texts-own (with_text texts text) more q r
    ] refl e

-- what is true of each text that stands among texts is true of each
pub each_where : (P : List ℕ → Type 0) (texts : List (List ℕ))
    → ((q : List ℕ) → stands_in texts q ≡ true → P q) → AllByRecursion P texts
each_where P [] h = tt
each_where P (text ∷ texts) h = (
  h text (or_left (bytes_eq text text) (stands_in texts text) (is_same_name-self text)),
  each_where P texts (λ q e. h q (or_right (bytes_eq q text) (stands_in texts q) e)),
)

pub stand_where : (sub full : List (List ℕ))
    → ((q : List ℕ) → stands_in sub q ≡ true → stands_in full q ≡ true) → AllStand full sub
stand_where sub full = each_where (λ q. stands_in full q ≡ true) sub

-- ---- numbers of texts

-- a text that is there keeps its number as more come
pub number_in-withs : (front back : List (List ℕ)) (text : List ℕ)
    → stands_in front text ≡ true → number_in (with_texts front back) text ≡ number_in front text
number_in-withs front [] text there = refl
number_in-withs front (next ∷ back) text there =
    number_in-withs (with_text front next) back text (with_text-stands front next text there)
    ∙ number_in-kept front next text there

-- texts of one number are one text
number_in-one : (texts : List (List ℕ)) (a b : List ℕ)
    → stands_in texts a ≡ true → stands_in texts b ≡ true → number_in texts a ≡ number_in texts b → a ≡ b
number_in-one texts a b left right e =
    sym (text_of_number texts a (number_in-lt texts a left)) ∙ ap (λ k. slice_index_or texts k []) e
    ∙ text_of_number texts b (number_in-lt texts b right)

-- so ids differ where texts do
same_id : (names : List (List ℕ)) (a b : List ℕ)
    → stands_in names a ≡ true → stands_in names b ≡ true → eqb (id_in names a) (id_in names b) ≡ bytes_eq a b
same_id names a b left right =
    grind (arith, common_steps, eq-eqb, ne_eqb, same_from_is_same_name, is_same_name-self, number_in-one)

known_id : (names sub : List (List ℕ)) (q : List ℕ)
    → stands_in names q ≡ true → AllStand names sub → is_known (map (id_in names) sub) (id_in names q) ≡ stands_in sub q
known_id names [] q e all = refl
known_id names (text ∷ sub) q e all = rw (same_id names q text e all.0, known_id names sub q e all.1) refl

-- a text that is none of some others doesn't stand among them
none_same : (text : List ℕ) (others : List (List ℕ))
    → AllByRecursion (λ (other : List ℕ). is_same_name text other ≡ false) others → stands_in others text ≡ false
none_same text [] all = refl
none_same text (other ∷ others) all = rw (all.0, none_same text others all.1) refl

ids_single : (names sub : List (List ℕ))
    → AllStand names sub → AreSingle sub → has_double (map (id_in names) sub) ≡ false
unfolding IsDistinct
ids_single names [] all apart = refl
ids_single names (text ∷ sub) all apart =
    rw (known_id names sub text all.0 all.1, none_same text sub apart.0, ids_single names sub all.1 apart.1) refl

-- ---- ids of what is exported

-- names that came one after the other are there once each
pub added-AreSingle : (names more : List (List ℕ)) → names ≡ with_texts [] more → AreSingle names
added-AreSingle names more is = rw is (single_with [] more none_single)

-- the id of a name is its place, from 1
pub id_of_place : (items : List (Bor (List ℕ))) (names : List (List ℕ)) (place : ℕ)
    → map (λ (text : Bor (List ℕ)). text.now) items ≡ names → AreSingle names → place < length items
    → place + 1 ≡ id_in names (get_or items place no_text).now
id_of_place items names place is single lt =
    let long = length-map items (λ (text : Bor (List ℕ)). text.now) in
    let many = ap length is in
    ap (λ number. number + 1) (sym (number_in-own names place single (omega (arith, lt, long, many))))
    ∙ ap (λ name. id_in names name) (ap (λ texts. get_or texts place []) (sym is) ∙ shown_at items place no_text)

id_not_zero : (names : List (List ℕ)) (text : List ℕ) → (id_in names text == 0) ≡ false
id_not_zero names text = ne_eqb (id_in names text) 0 (λ e. absurd (omega (arith, e)))

-- no id is 0
none_zero : (names sub : List (List ℕ)) → list_any (λ text. id_in names text == 0) sub ≡ false
none_zero names [] = refl
none_zero names (text ∷ sub) = rw (id_not_zero names text, none_zero names sub) refl

-- where nothing is asked, each item passes
all_true : {A : Type 0} (items : List A) → list_all (λ item. true) items ≡ true
all_true [] = refl
all_true (item ∷ items) = all_true items

-- ---- indices

is_index-number : (strings : List (List ℕ)) (text : List ℕ)
    → stands_in strings text ≡ true → is_index (length strings) (pos (number_in strings text)) ≡ true
is_index-number strings text e = lt-ltb (number_in strings text) (length strings) (number_in-lt strings text e)

is_index-zero : (strings : List (List ℕ)) → is_nonempty strings ≡ true → is_index (length strings) (pos 0) ≡ true
is_index-zero [] e = absurd (false≢true e)
is_index-zero (text ∷ texts) e = lt-ltb 0 (length (text ∷ texts)) (omega arith)

functions_index : (names strings sub : List (List ℕ)) → is_nonempty strings ≡ true → AllStand strings sub
    → list_all (function_indexes (length strings)) (map (exported_function names strings) sub) ≡ true
functions_index names strings [] some all = refl
functions_index names strings (text ∷ sub) some all =
    grind (arith, common_steps, is_index-number, is_index-zero, functions_index names strings sub some all.1)

-- as many values as there are kinds and units
values_each : (names : List (List ℕ)) (count : ℕ) (rows : List Row) → AllByRecursion
    (λ row. length row.weights ≡ count) rows → each_has_values count (map (exported_sample names) rows) ≡ true
values_each names count [] all = refl
values_each names count (row ∷ rows) all =
    grind (arith, common_steps, eq-eqb, length-map, values_each names count rows all.1)

types_index : (strings : List (List ℕ)) (units : List KindAndUnit) → AllStand strings (unit_texts units)
    → list_all (value_type_indexes (length strings)) (map (exported_type strings) units) ≡ true
types_index strings [] all = refl
types_index strings (unit ∷ units) all = grind (arith, common_steps, is_index-number, types_index strings units all.1.1)

-- ---- what names an id

known_each : (names : List (List ℕ)) (q : List ℕ)
    → AllStand names names → stands_in names q ≡ true → is_known (map (id_in names) names) (id_in names q) ≡ true
known_each names q all e = known_id names names q e all ∙ e

functions_known : (names sub : List (List ℕ)) → AllStand names names → AllStand names sub
    → names_functions (is_known (map (id_in names) names)) (map (exported_location names) sub) ≡ true
functions_known names [] whole all = refl
functions_known names (text ∷ sub) whole all =
    rw (id_not_zero names text, known_each names text whole all.0, functions_known names sub whole all.1) refl

list_all_reversed : (p : ℕ → Bool) (ids : List ℕ) → list_all p ids ≡ true → list_all p (reverse ids) ≡ true
list_all_reversed p [] e = refl
list_all_reversed p (id ∷ ids) e = grind (arith, common_steps, and_parts, list_all_reversed p ids)

ids_known : (names stack : List (List ℕ)) → AllStand names names
    → AllStand names stack → list_all (is_known (map (id_in names) names)) (map (id_in names) stack) ≡ true
ids_known names [] whole all = refl
ids_known names (text ∷ stack) whole all =
    rw (known_each names text whole all.0, ids_known names stack whole all.1) refl

-- the frames of rows, in order
abbrev pub frames_in : List Row → List (List ℕ)
frames_in rows = flat_map (λ row. row.stack) rows

-- of texts that stand, those in front and those after do
pub stand_parts : (names front back : List (List ℕ))
    → AllStand names (front ++ back) → AllStand names front × AllStand names back
stand_parts names [] back all = (tt, all)
stand_parts names (text ∷ front) back all =
    let (here, rest) = stand_parts names front back all.1 in ((all.0, here), rest)

locations_known : (names : List (List ℕ)) (rows : List Row) → AllStand names names → AllStand names (frames_in rows)
    → names_locations (is_known (map (id_in names) names)) (map (exported_sample names) rows) ≡ true
locations_known names [] whole all = refl
locations_known names (row ∷ rows) whole all =
    let (here, later) = stand_parts names row.stack (frames_in rows) all in
    grind (arith, common_steps, list_all_reversed, ids_known, locations_known names rows whole later)

-- ---- the table of strings

begins : (texts more : List (List ℕ))
    → begins_with_empty texts ≡ true → begins_with_empty (with_texts texts more) ≡ true
begins texts [] e = e
begins [] (text ∷ more) e = absurd (false≢true e)
begins (first ∷ texts) (text ∷ more) e = begins (with_text (first ∷ texts) text) more
    (cond_both (stands_in (first ∷ texts) text) (first ∷ texts) (first ∷ texts ++ text ∷ [])
    (λ all. begins_with_empty all ≡ true) (λ there. e) (λ none. e))

begun_nonempty : (texts : List (List ℕ)) → begins_with_empty texts ≡ true → is_nonempty texts ≡ true
begun_nonempty [] e = absurd (false≢true e)
begun_nonempty (text ∷ texts) e = refl

-- ---- the profile

-- what the names and strings of an export are
pub record AreExported (names strings : List (List ℕ)) (rows : List Row) (units : List KindAndUnit) : Type 0 where
  pub own : AllStand names names
  pub apart : AreSingle names
  pub strung : AllStand strings names
  pub stacks_strung : AllStand strings (frames_in rows)
  pub units_there : AllStand strings (unit_texts units)
  pub begun : begins_with_empty strings ≡ true
  pub stacks : AllStand names (frames_in rows)

pub valid_with : (names strings : List (List ℕ)) (rows : List Row) (units : List KindAndUnit)
    → AreExported names strings rows units → AllByRecursion (λ row. length row.weights ≡ length units) rows
    → IsValidDraft (profile_with names strings rows units)
valid_with names strings rows units this widths =
    let some = begun_nonempty strings this.begun in
    rw (
      map-map (λ (location : Location). location.id) (exported_location names) names,
      map-map (λ (function : Function). function.id) (exported_function names strings) names,
      some,
      this.begun,
      types_index strings units this.units_there,
      list_all-map (sample_indexes (length strings)) (exported_sample names) rows,
      all_true rows,
      functions_index names strings names some this.strung,
      is_index-zero strings some,
      list_any-map (λ (location : Location). location.id == 0) (exported_location names) names,
      list_any-map (λ (function : Function). function.id == 0) (exported_function names strings) names,
      none_zero names names,
      ids_single names names this.own this.apart,
      locations_known names rows this.own this.stacks,
      list_all-map (λ (location : Location). is_none_or (is_known []) location.mapping_id)
          (exported_location names) names,
      all_true names,
      functions_known names names this.own this.own,
      length-map units (exported_type strings),
      values_each names (length units) rows widths,
    ) refl

pub exported_names : (rows : List Row) (units : List KindAndUnit)
    → AreExported (names_of rows) (strings_of units (names_of rows)) rows units
exported_names rows units =
    let names = names_of rows in
    let all = [] ∷ unit_texts units ++ names in
    let there = (stand_where all (strings_of units names) (with_texts-own [] all)).1 in
    let (units_there, strung) = stand_parts (strings_of units names) (unit_texts units) names there in
    record {
      own = stand_where names names (λ q e. e);
      apart = single_with [] (frames_in rows) none_single;
      strung = strung;
      stacks_strung = stand_where (frames_in rows) (strings_of units names)
          (λ q e. grind (arith, common_steps, or_right, with_texts-own));
      units_there = units_there;
      begun = begins (with_text [] []) (unit_texts units ++ names) refl;
      stacks = stand_where (frames_in rows) names (with_texts-own [] (frames_in rows));
    }

pub export_valid : (rows : List Row) (units : List KindAndUnit)
    → All (λ row. length row.weights ≡ length units) rows → IsValidDraft (exported_profile_of rows units)
export_valid rows units widths = grind (arith, common_steps, recursion_from_All, valid_with, exported_names)

-- ---- the rows of the profile

-- among what is exported for each name, the name's own is found by its id
found_by_id : {A : Type 0} (id_of : A → ℕ) (made : List ℕ → A) (names sub : List (List ℕ)) (q : List ℕ)
    → ((text : List ℕ) → id_of (made text) ≡ id_in names text)
    → stands_in names q ≡ true
    → AllStand names sub → stands_in sub q ≡ true → item_with id_of (id_in names q) (map made sub) ≡ Some (made q)
found_by_id id_of made names [] q ids e all there = absurd (false≢true there)
found_by_id id_of made names (text ∷ sub) q ids e all there =
    let here = ids text in
    let later = found_by_id id_of made names sub q ids e all.1 in
    grind (arith, common_steps, here, later, eq-eqb, ne_eqb, number_in-one, is_same_name-self, same_from_is_same_name)

-- a name's location has it as its one frame
frame_of_id : (names strings : List (List ℕ)) (rows : List Row) (units : List KindAndUnit) (text : List ℕ)
    → AreExported names strings rows units → stands_in names text ≡ true → stands_in strings text ≡ true → IsName text
    → frames_of_id (profile_with names strings rows units) (id_in names text) ≡ text ∷ []
frame_of_id names strings rows units text this there strung is_name =
    grind (arith, common_steps, cleaned-name, text_of_number, number_in-lt, found_by_id)

flat_of_reversed : (frames_of : ℕ → List (List ℕ)) (id_of : List ℕ → ℕ) (stack : List (List ℕ))
    → AllByRecursion (λ text. frames_of (id_of text) ≡ text ∷ []) stack
    → flat_map frames_of (reverse (map id_of stack)) ≡ reverse stack
flat_of_reversed frames_of id_of [] each = refl
flat_of_reversed frames_of id_of (text ∷ stack) each =
    grind (arith, common_steps, flat_of_reversed frames_of id_of stack each.1)

value_there : (value : ℕ) (weights : List ℕ)
    → value < length weights → slice_get (map pos weights) value ≡ Some (pos (value_of value weights))
value_there value [] within = absurd (omega (arith, within))
value_there zero (weight ∷ weights) within = refl
value_there (suc value) (weight ∷ weights) within = value_there value weights (omega (arith, within))

-- a row of so many values that a batch can hold
abbrev pub CanStand : ℕ → Row → Type 0
CanStand width row = All IsName row.stack × (length row.stack ≤ 65535) × (length row.weights ≡ width)

module _ (names strings : List (List ℕ))
    (rows : List Row) (units : List KindAndUnit) (this : AreExported names strings rows units) where
  each_frame : (stack : List (List ℕ)) → AllStand names stack → AllStand strings stack → AllByRecursion IsName stack
      → AllByRecursion
      (λ text. frames_of_id (profile_with names strings rows units) (id_in names text) ≡ text ∷ []) stack
  each_frame [] all strung are_names = tt
  each_frame (text ∷ stack) all strung are_names = (
    frame_of_id names strings rows units text this all.0 strung.0 are_names.0,
    each_frame stack all.1 strung.1 are_names.1,
  )

  row_sampled : (width : ℕ) (row : Row) → AllStand names row.stack → AllStand strings row.stack → CanStand width row
      → IsRowOfSample (profile_with names strings rows units) 0 width (exported_sample names row) row
  row_sampled width row all strung (are_names, deep, size) = record {
    stack =
        sym (ap reverse (flat_of_reversed (frames_of_id (profile_with names strings rows units)) (id_in names) row.stack
        (each_frame row.stack all strung (recursion_from_All IsName row.stack are_names))) ∙ reverse-reverse row.stack);
    depth = deep;
    count = size;
    values = λ value lt. grind (arith, common_steps, value_there);
  }

  rows_sampled : (width : ℕ) (some : List Row)
      → AllStand names (frames_in some) → AllStand strings (frames_in some) → AllByRecursion (CanStand width) some
      → AreRowsOfSamples (profile_with names strings rows units) 0 width (map (exported_sample names) some) some
  rows_sampled width [] all strung can = refl
  rows_sampled width (row ∷ some) all strung can =
      let (here, later) = stand_parts names row.stack (frames_in some) all in
      let (there, after) = stand_parts strings row.stack (frames_in some) strung in
      (row_sampled width row here there can.0, rows_sampled width some later after can.1)

-- the rows come back
pub exported_rows : (rows : List Row) (units : List KindAndUnit) (width : ℕ) → AllByRecursion (CanStand width) rows
    → AreRowsOfSamples
    (exported_profile_of rows units) 0 width (map (exported_sample (names_of rows)) rows) rows
exported_rows rows units width can =
    let names = names_of rows in
    let this = exported_names rows units in
    rows_sampled names (strings_of units names) rows units this width rows this.stacks this.stacks_strung can
