-- The tallies of names show each name that weighs something once.
use Rattle.std.proofs.lemmas.Grind.{common_steps}
use Rattle.std.proofs.Common.{rules, ◌≡◌, ℕ, ◌+◌, ◌<◌, ◌≤◌, true, false, cond, List, [], ◌∷◌, ◌++◌, length, take}
use Rattle.std.proofs.Common.{get_or}
use Rattle.std.proofs.Common.{refl, sym, ap, ◌∙◌, subst, arith}
use Rattle.std.specs.Prelude.{filter, map, nat_lt, slice_index_or, unwrap_or}
use Rattle.std.specs.List.{zip}
use Rattle.std.specs.List.{All, AllByRecursion, IsDistinct}
use Rattle.std.specs.Map.{keys_of, lookup}
use Rattle.std.proofs.lemmas.Bool.{lt-ltb}
use Rattle.std.proofs.lemmas.Cmp.{nat_list_eq_equiv}
use Rattle.std.proofs.lemmas.List.{append-nil, map-append, take_more}
use Rattle.std.proofs.lemmas.List.Elements.{All-from_recursion, filter-append, recursion_from_All}
use Rattle.std.proofs.lemmas.List.Sums.{sum_by-cons}
use Rattle.std.proofs.lemmas.Map.Entries.{lookup_from_place}
use Rattle.std.proofs.lemmas.Option.{slice_get-get_or}
use Rattle.std.proofs.lemmas.Slice.Zip.{get_or-zip, length-zip}
use Rattle.profile_rows.specs.declared.frame_totals.FrameTotal.{FrameTotal}
use Rattle.name_counts.specs.declared.tallies.Tallies.{Tallies}
use Rattle.name_counts.specs.declared.tallies.Tally.{Tally}
use Rattle.profile_rows.specs.declared.weighted_stacks.WeightedStack.{WeightedStack}
use Rattle.profile_rows.specs.Names.{IsName, is_same_name}
use Rattle.name_counts.specs.Tallies.{AreSingle, AreTalliesOf, IsTallyOf, tally_at, tally_of}
use Rattle.profile_rows.specs.TopList.{AreSumsOf, occurrences, sums_at}
use Rattle.profile_rows.proofs.SameNames.{same_from_is_same_name}
use Rattle.name_counts.proofs.TallyLaws.{number_in-own, zero_tally}

abbrev Entry : Type 0
Entry = List ℕ × Tally

abbrev entry_shown : Entry → FrameTotal
entry_shown entry = record { name = entry.0; flat = entry.1.flat; cum = entry.1.cumulative }

-- the names of cumulative weight above 0
abbrev pub weighted_in : List Entry → List FrameTotal
weighted_in entries = filter (λ sums. nat_lt 0 sums.cum) (map entry_shown entries)

abbrev mark : List ℕ → FrameTotal → ℕ
mark name sums = cond (is_same_name name sums.name) 1 0

-- what a list of entries has at a name
abbrev found_in : List Entry → List ℕ → Tally
found_in entries name = unwrap_or (lookup (is_same_name name) entries) zero_tally

-- a name that no entry passes isn't shown
absent : (name : List ℕ) (entries : List Entry)
    → AllByRecursion (λ (e : Entry). is_same_name name e.0 ≡ false) entries → occurrences name (weighted_in entries) ≡ 0
absent name [] none = refl
absent name (entry ∷ entries) none = grind (arith, common_steps, sum_by-cons, absent name entries none.1)

others : (name : List ℕ) (entry : Entry) (entries : List Entry)
    → is_same_name name entry.0 ≡ true → AllByRecursion (λ other. is_same_name entry.0 other ≡ false) (keys_of entries)
    → AllByRecursion (λ (e : Entry). is_same_name name e.0 ≡ false) entries
others name entry [] is apart = tt
others name entry (e ∷ entries) is apart = search (rules, same_from_is_same_name, others name entry entries is apart.1)

-- a name is shown once where its tally weighs something
shown_once : (name : List ℕ) (entries : List Entry) → AreSingle (keys_of entries)
    → occurrences name (weighted_in entries) ≡ cond (nat_lt 0 (found_in entries name).cumulative) 1 0
unfolding IsDistinct
shown_once name [] distinct = refl
shown_once name (entry ∷ entries) distinct =
    grind (arith, common_steps, sum_by-cons, zero_tally, absent, others, shown_once name entries distinct.1)

-- ---- the entries of names with their tallies

found_zip : (names : List (List ℕ)) (tallies : List Tally) (name : List ℕ)
    → length tallies ≡ length names → found_in (zip names tallies) name ≡ tally_of names tallies name
found_zip [] [] name same = refl
found_zip [] (tally ∷ tallies) name same = absurd (omega (arith, same))
found_zip (first ∷ names) [] name same = absurd (omega (arith, same))
found_zip (first ∷ names) (tally ∷ tallies) name same =
    grind (arith, common_steps, zero_tally, found_zip names tallies name (omega (arith, same)))

keys_of-zip : (names : List (List ℕ)) (tallies : List Tally)
    → length tallies ≡ length names → keys_of (zip names tallies) ≡ names
keys_of-zip [] [] same = refl
keys_of-zip [] (tally ∷ tallies) same = absurd (omega (arith, same))
keys_of-zip (first ∷ names) [] same = absurd (omega (arith, same))
keys_of-zip (first ∷ names) (tally ∷ tallies) same =
    ap (λ keys. first ∷ keys) (keys_of-zip names tallies (omega (arith, same)))

-- each entry is what its key finds
each_found : (entries : List Entry)
    → AreSingle (keys_of entries) → All (λ (e : Entry). e.1 ≡ found_in entries e.0) entries
each_found entries distinct k d lt =
    let e = get_or entries k d in
    sym (ap (λ o. unwrap_or o zero_tally)
    (lookup_from_place nat_list_eq_equiv entries k e.0 e.1 distinct (slice_get-get_or entries k d lt)))

-- what is shown of an entry with the rows' tally is the name's weights in the rows
sums_from : (rows : List WeightedStack) (last : ℕ) (entry : Entry)
    → IsTallyOf rows last entry.0 entry.1 → entry_shown entry ≡ sums_at rows entry.0
sums_from rows last entry is = grind (arith, common_steps)

shown_weights : (rows : List WeightedStack) (last : ℕ) (all entries : List Entry) → ((name : List ℕ)
    → IsTallyOf rows last name (found_in all name)) → AllByRecursion (λ (e : Entry). e.1 ≡ found_in all e.0) entries
    → AllByRecursion (λ sums. sums ≡ sums_at rows sums.name) (weighted_in entries)
shown_weights rows last all [] tallies each = tt
shown_weights rows last all (entry ∷ entries) tallies each =
    grind (arith, common_steps, sums_from, shown_weights rows last all entries tallies each.1)

-- the rows' tallies show each name that weighs something once, with its weights
pub shown-AreSumsOf : (rows : List WeightedStack) (names : List (List ℕ)) (tallies : Tallies)
    → AreTalliesOf rows names tallies → AreSumsOf rows (weighted_in (zip names tallies.names.items))
shown-AreSumsOf rows names tallies are =
    let entries = zip names tallies.names.items in
    let distinct : AreSingle (keys_of entries) =
    subst AreSingle (sym (keys_of-zip names tallies.names.items are.many)) are.single in
    record {
      weights = All-from_recursion (λ sums. sums ≡ sums_at rows sums.name) (weighted_in entries)
          (shown_weights rows tallies.total entries entries (λ name. subst (IsTallyOf rows tallies.total name)
          (sym (found_zip names tallies.names.items name are.many)) (are.each name))
          (recursion_from_All (λ (e : Entry). e.1 ≡ found_in entries e.0) entries (each_found entries distinct)));
      once = λ name.
          shown_once name entries distinct
          ∙ ap (λ (t : Tally). cond (nat_lt 0 t.cumulative) 1 0) (found_zip names tallies.names.items name are.many)
          ∙ ap (λ n. cond (nat_lt 0 n) 1 0) (are.each name).cumulative;
    }

-- a name that weighs something is one
pub number_named : (rows : List WeightedStack) (names : List (List ℕ)) (tallies : Tallies) (number : ℕ)
    → AreTalliesOf rows names tallies → number < length names
    → 0 < (tally_at tallies.names.items number).cumulative → IsName (slice_index_or names number [])
number_named rows names tallies number are lt some =
    (are.each (slice_index_or names number [])).named (subst
    (λ k. 0 < (tally_at tallies.names.items k).cumulative) (sym (number_in-own names number are.single lt)) some)

-- ---- a name more

next_weighted : (names : List (List ℕ)) (tallies : List Tally) (number : ℕ)
    → length tallies ≡ length names → number < length names
    → weighted_in (take (number + 1) (zip names tallies)) ≡ weighted_in (take number (zip names tallies)) ++ weighted_in
    ((slice_index_or names number [], tally_at tallies number) ∷ [])
next_weighted names tallies number same lt =
    let long = length-zip names tallies in
    let entry : Entry = ([], zero_tally) in
    ap weighted_in (take_more (zip names tallies) number entry (omega (arith, long, same, lt)) ∙ ap (λ e. take number
    (zip names tallies) ++ e ∷ []) (get_or-zip names tallies number entry lt (omega (arith, same, lt))))
    ∙ ap (filter (λ sums. nat_lt 0 sums.cum)) (map-append entry_shown
    (take number (zip names tallies)) ((slice_index_or names number [], tally_at tallies number) ∷ []))
    ∙ filter-append (λ sums. nat_lt 0 sums.cum) (map entry_shown (take number (zip names tallies)))
    (entry_shown (slice_index_or names number [], tally_at tallies number) ∷ [])

-- one that weighs something
pub weighty_more : (names : List (List ℕ)) (tallies : List Tally) (number : ℕ)
    (name : List ℕ) (tally : Tally) (old new : List FrameTotal) → length tallies ≡ length names → number < length names
    → name ≡ slice_index_or names number []
    → tally ≡ tally_at tallies number → 0 < tally.cumulative → old ≡ weighted_in (take number (zip names tallies))
    → new ≡ old ++ entry_shown (name, tally) ∷ [] → new ≡ weighted_in (take (number + 1) (zip names tallies))
weighty_more names tallies number name tally old new same lt name_is tally_is some so_far pushed =
    grind (arith, lt-ltb, next_weighted)

-- one that weighs nothing
pub weightless_more : (names : List (List ℕ)) (tallies : List Tally)
    (number : ℕ) (tally : Tally) (list : List FrameTotal) → length tallies ≡ length names → number < length names
    → tally ≡ tally_at tallies number → tally.cumulative ≤ 0 → list ≡ weighted_in (take number (zip names tallies))
    → list ≡ weighted_in (take (number + 1) (zip names tallies))
weightless_more names tallies number tally list same lt tally_is none so_far = grind (arith, append-nil, next_weighted)
