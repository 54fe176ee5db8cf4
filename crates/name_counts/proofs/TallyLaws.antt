-- A row counts each of its names once, and its leaf.
use Rattle.std.proofs.lemmas.Grind.{common_steps}
use Rattle.std.proofs.Common.{rules, ◌≡◌, ◌≢◌, ℕ, zero, suc, ◌+◌, ◌<◌, ◌≤◌, Bool, true, false, cond, eqb, ◌||◌, List}
use Rattle.std.proofs.Common.{[]}
use Rattle.std.proofs.Common.{◌∷◌, ◌++◌, length, set, Some, None, refl, sym, ap, ◌∙◌, subst, arith, All}
use Rattle.std.specs.Prelude.{if◌then◌else◌, slice_index_or}
use Rattle.std.specs.List.{AllByRecursion, IsDistinct}
use Rattle.std.proofs.lemmas.Bool.{eqb-true, eq-eqb, false≢true, ne_eqb, or_right}
use mathlib.Core.Bool.{or-false}
use Rattle.std.proofs.lemmas.List.{get_or-set_other, get_or-set_same}
use Rattle.std.proofs.lemmas.List.Elements.{recursion_from_All}
use Rattle.std.proofs.lemmas.List.Folds.{list_any-append}
use Rattle.std.proofs.lemmas.List.Sums.{sum_by_push}
use Rattle.name_counts.specs.declared.tallies.Tallies.{Tallies}
use Rattle.name_counts.specs.declared.tallies.Tally.{Tally}
use Rattle.profile_rows.specs.declared.weighted_stacks.WeightedStack.{WeightedStack}
use Rattle.profile_rows.specs.Names.{IsName, is_same_name}
use Rattle.profile_rows.specs.Rows.{has_name, ends_with_name, weight_if}
use Rattle.name_counts.specs.Tallies.{AreSingle, AreTalliesOf, IsNumberedStack, IsTallyOf, frame_counted, has_number}
use Rattle.name_counts.specs.Tallies.{leaf_counted, numbers_counted, tally_at, tally_of}
use Rattle.name_counts.specs.TextTables.{names_at}
use Rattle.name_counts.specs.TextTables.{number_in}
use Rattle.profile_rows.proofs.RowLaws.{ends_with_name-push, weight_where-le-total, weight_where-push}
use Rattle.profile_rows.proofs.SameNames.{same_from_is_same_name, is_same_name-self}
use Rattle.name_counts.proofs.TextNumbers.{text_of_number, turned}

abbrev tally : ℕ → ℕ → ℕ → Tally
tally flat cumulative row = record { flat = flat; cumulative = cumulative; row = row }

abbrev pub zero_tally : Tally
zero_tally = tally 0 0 0

same_tally : (a b : Tally) → a.flat ≡ b.flat → a.cumulative ≡ b.cumulative → a.row ≡ b.row → a ≡ b
same_tally a b flat cumulative row = grind (arith, common_steps)

-- ---- the tally of one number

tally_at-set : (tallies : List Tally) (number other : ℕ) (new : Tally) → number < length tallies
    → tally_at (set tallies number new) other ≡ cond (eqb number other) new (tally_at tallies other)
tally_at-set tallies number other new lt =
    grind (arith, common_steps, eqb-true, eq-eqb, get_or-set_other, get_or-set_same)

-- a tally that is changed at its number
changed_at : (old new : List Tally) (number other : ℕ) (change : Tally → Tally)
    → number < length old → new ≡ set old number (change (tally_at old number))
    → tally_at new other ≡ cond (eqb number other) (change (tally_at old other)) (tally_at old other)
changed_at old new number other change lt written = grind (arith, common_steps, eqb-true, tally_at-set)

-- ---- the frames of a row

abbrev once_more : Tally → ℕ → ℕ → Tally
once_more t row weight = tally t.flat (t.cumulative + weight) row

counted_row : (t : Tally) (row weight : ℕ) → (frame_counted t row weight).row ≡ row
counted_row t row weight = grind (arith, common_steps, eqb-true)

counted_twice : (t : Tally) (row weight : ℕ)
    → frame_counted (frame_counted t row weight) row weight ≡ frame_counted t row weight
counted_twice t row weight = grind (arith, common_steps, eq-eqb, counted_row)

abbrev if_has : Bool → ℕ → ℕ → Tally → Tally
if_has has row weight t = cond has (frame_counted t row weight) t

-- one number more, by cases of whether it and those before are this
one_more : (before here : Bool) (row weight : ℕ) (t : Tally) → cond here (frame_counted
    (if_has before row weight t) row weight) (if_has before row weight t) ≡ if_has (before || here) row weight t
one_more true true row weight t = counted_twice t row weight
one_more true false row weight t = refl
one_more false true row weight t = refl
one_more false false row weight t = refl

pub has_number-push : (numbers : List ℕ) (number other : ℕ)
    → has_number other (numbers ++ number ∷ []) ≡ (has_number other numbers || eqb number other)
has_number-push numbers number other = grind (arith, common_steps, list_any-append, or-false)

pub numbers_counted-flat : (numbers : List ℕ) (row weight number : ℕ) (t : Tally)
    → (numbers_counted numbers row weight number t).flat ≡ t.flat
numbers_counted-flat numbers row weight number t = grind (arith, common_steps)

-- ---- names by numbers

apart_at : (name : List ℕ) (names : List (List ℕ)) (number : ℕ)
    → number < length names → AllByRecursion (λ (other : List ℕ). is_same_name name other ≡ false) names
    → is_same_name name (slice_index_or names number []) ≡ false
apart_at name [] number lt all = absurd (omega (arith, lt))
apart_at name (other ∷ names) zero lt all = all.0
apart_at name (other ∷ names) (suc number) lt all = apart_at name names number (omega (arith, lt)) all.1

-- the number of a number's name is this number
pub number_in-own : (names : List (List ℕ)) (number : ℕ)
    → AreSingle names → number < length names → number_in names (slice_index_or names number []) ≡ number
unfolding IsDistinct
number_in-own [] number single lt = absurd (omega (arith, lt))
number_in-own (first ∷ names) zero single lt = ap (λ b. cond b 0 (number_in names first + 1)) (is_same_name-self first)
number_in-own (first ∷ names) (suc number) single lt =
    grind (arith, common_steps, turned, apart_at, number_in-own names number single.1 (omega (arith, lt)))

-- a name is that of a number where this is its place
same_number : (names : List (List ℕ)) (q : List ℕ) (number : ℕ) → AreSingle names
    → number < length names → is_same_name q (slice_index_or names number []) ≡ eqb number (number_in names q)
same_number names q number single lt =
    let name = slice_index_or names number [] in
    elim (is_same_name q name) as (λ b. is_same_name q name ≡ b → b ≡ eqb number (number_in names q)) [
      | true ↦ λ e. sym (eq-eqb number (number_in names q)
          (sym (ap (number_in names) (same_from_is_same_name q name e) ∙ number_in-own names number single lt)))
      | false ↦ λ e. sym (ne_eqb number (number_in names q) (λ same.
          let there : slice_index_or names number [] ≡ q = ap (λ n. slice_index_or names n []) same
          ∙ text_of_number names q (omega (arith, same, lt)) in
          false≢true (sym e ∙ ap (is_same_name q) there ∙ is_same_name-self q)))
    ] refl

has_numbers : (names : List (List ℕ)) (numbers : List ℕ) (q : List ℕ)
    → AreSingle names → AllByRecursion (λ number. number < length names) numbers
    → has_number (number_in names q) numbers ≡ has_name q (names_at names numbers)
has_numbers names [] q single all = refl
has_numbers names (number ∷ numbers) q single all =
    grind (arith, common_steps, same_number, has_numbers names numbers q single all.1)

-- ---- a row

abbrev tally_from : Bool → Bool → ℕ → ℕ → Tally → Tally
tally_from ends has number weight t =
    tally (t.flat + cond ends weight 0) (t.cumulative + cond has weight 0) (cond has number t.row)

counted_new : (t : Tally) (number weight : ℕ)
    → t.row < number → frame_counted t number weight ≡ once_more t number weight
counted_new t number weight fresh =
    ap (λ b. cond b t (once_more t number weight)) (ne_eqb t.row number (λ same. omega (arith, same, fresh)))

-- the names of a row, and then its leaf
leaf_after : (ends has : Bool) (t : Tally) (number weight : ℕ) → t.row < number → (ends ≡ true → has ≡ true)
    → cond ends (leaf_counted (if_has has number weight t) weight) (if_has has number weight t)
    ≡ tally_from ends has number weight t
leaf_after true true t number weight fresh within = ap (λ u. leaf_counted u weight) (counted_new t number weight fresh)
leaf_after true false t number weight fresh within = absurd (false≢true (within refl))
leaf_after false true t number weight fresh within = counted_new t number weight fresh
    ∙ same_tally _ _ (omega arith) refl refl
leaf_after false false t number weight fresh within = same_tally _ _ (omega arith) (omega arith) refl

-- a row more, for the tally of one name
abbrev row_counted : WeightedStack → ℕ → List ℕ → Tally → Tally
row_counted row number name tally = record {
  flat = tally.flat + weight_if (ends_with_name name) row;
  cumulative = tally.cumulative + weight_if (has_name name) row;
  row = if has_name name row.stack then number else tally.row;
}

row_counted-leaf : (row : WeightedStack) (names : List (List ℕ)) (numbers : List ℕ) (leaf number : ℕ)
    (q : List ℕ) (t : Tally) → AreSingle names → IsNumberedStack names row.stack numbers (Some leaf) → t.row < number
    → cond (eqb leaf (number_in names q))
    (leaf_counted (numbers_counted numbers number row.weight (number_in names q) t)
    row.weight) (numbers_counted numbers number row.weight (number_in names q) t)
    ≡ row_counted row number q t
row_counted-leaf row names numbers leaf number q t single this fresh =
    grind (
      arith,
      common_steps,
      recursion_from_All,
      list_any-append,
      or-false,
      same_number,
      has_numbers,
      leaf_after,
      ends_with_name-push,
      or_right,
    )

-- the empty stack counts for no name
row_counted-empty : (row : WeightedStack) (number : ℕ) (name : List ℕ) (t : Tally)
    → row.stack ≡ [] → t ≡ row_counted row number name t
row_counted-empty row number name t empty = grind (arith, common_steps, same_tally)

row_counted-none : (row : WeightedStack) (names : List (List ℕ)) (numbers : List ℕ)
    (number : ℕ) (q : List ℕ) (t : Tally) → AreSingle names → IsNumberedStack names row.stack numbers None
    → numbers_counted numbers number row.weight (number_in names q) t ≡ row_counted row number q t
row_counted-none row names numbers number q t single this =
    grind (arith, common_steps, recursion_from_All, has_numbers, row_counted-empty)

-- ---- the tallies of rows, row by row

-- a name of the stack is a name
pub named_in : (name : List ℕ) (stack : List (List ℕ))
    → AllByRecursion IsName stack → has_name name stack ≡ true → IsName name
named_in name [] all has = absurd (false≢true has)
named_in name (frame ∷ stack) all has = search (rules, same_from_is_same_name, named_in name stack all.1)

IsTallyOf-counted : (rows : List WeightedStack) (row : WeightedStack) (earlier : ℕ) (name : List ℕ)
    (tally after : Tally)
    → All IsName row.stack → IsTallyOf rows earlier name tally
    → after ≡ row_counted row (earlier + row.weight) name tally
    → IsTallyOf (rows ++ row ∷ []) (earlier + row.weight) name after
IsTallyOf-counted rows row earlier name tally after names is counted =
    grind (arith, common_steps, recursion_from_All, weight_where-push, named_in)

AreTalliesOf-counted : (rows : List WeightedStack) (row : WeightedStack) (names : List (List ℕ)) (old new : Tallies)
    → All IsName row.stack → AreTalliesOf rows names old
    → new.total ≡ old.total + row.weight → length new.names.items ≡ length old.names.items
    → ((q : List ℕ) → tally_of names new.names.items q ≡ row_counted row
    (old.total + row.weight) q (tally_of names old.names.items q)) → AreTalliesOf (rows ++ row ∷ []) names new
AreTalliesOf-counted rows row names old new named are total many counted = record {
  single = are.single;
  many = many ∙ are.many;
  each = λ q. subst (λ n. IsTallyOf (rows ++ row ∷ []) n q (tally_of names new.names.items q)) (sym total)
      (IsTallyOf-counted rows row old.total q
      (tally_of names old.names.items q) (tally_of names new.names.items q) named (are.each q) (counted q));
  total = total ∙ ap (λ n. n + row.weight) are.total ∙ sym (sum_by_push (λ (row : WeightedStack). row.weight) rows row);
}

fresh : (rows : List WeightedStack) (names : List (List ℕ)) (tallies : Tallies) (weight : ℕ) (q : List ℕ)
    → weight ≢ 0 → AreTalliesOf rows names tallies → (tally_of names tallies.names.items q).row < tallies.total + weight
fresh rows names tallies weight q some are = let last = (are.each q).numbered in omega (arith, last, some)

-- a row whose leaf is counted after its names
pub counted-leaf : (rows : List WeightedStack) (row : WeightedStack) (names : List (List ℕ))
    (numbers : List ℕ) (leaf : ℕ) (old new : Tallies) (mid : List Tally) → AreTalliesOf rows names old
    → IsNumberedStack names row.stack numbers (Some leaf)
    → row.weight ≢ 0 → new.total ≡ old.total + row.weight → length mid ≡ length old.names.items
    → ((q : ℕ)
    → tally_at mid q ≡ numbers_counted numbers (old.total + row.weight) row.weight q (tally_at old.names.items q))
    → new.names.items ≡ set mid leaf (leaf_counted (tally_at mid leaf) row.weight)
    → length new.names.items ≡ length mid → AreTalliesOf (rows ++ row ∷ []) names new
counted-leaf rows row names numbers leaf old new mid are this some total many counted written long =
    AreTalliesOf-counted rows row names old new this.named are total (long ∙ many) (λ q.
    changed_at mid new.names.items leaf (number_in names q) (λ t. leaf_counted t row.weight)
    (let low = this.last.0 in let all = are.many in omega (arith, low, all, many)) written
    ∙ ap (λ t. cond (eqb leaf (number_in names q)) (leaf_counted t row.weight) t) (counted (number_in names q))
    ∙ row_counted-leaf row names numbers leaf (old.total + row.weight) q
    (tally_of names old.names.items q) are.single this (fresh rows names old row.weight q some are))

pub counted-none : (rows : List WeightedStack)
    (row : WeightedStack) (names : List (List ℕ)) (numbers : List ℕ) (old new : Tallies) → AreTalliesOf rows names old
    → IsNumberedStack names row.stack numbers None
    → new.total ≡ old.total + row.weight → length new.names.items ≡ length old.names.items
    → ((q : ℕ) → tally_at new.names.items q ≡ numbers_counted numbers
    (old.total + row.weight) row.weight q (tally_at old.names.items q)) → AreTalliesOf (rows ++ row ∷ []) names new
counted-none rows row names numbers old new are this total many counted =
    grind (arith, common_steps, row_counted-none, AreTalliesOf-counted)

-- ---- limits

-- no name weighs more than all rows together
pub cumulative-most : (rows : List WeightedStack) (names : List (List ℕ)) (tallies : Tallies) (number : ℕ)
    → AreTalliesOf rows names tallies → number < length names
    → (tally_at tallies.names.items number).cumulative ≤ tallies.total
cumulative-most rows names tallies number are lt =
    let name = slice_index_or names number [] in
    let own : tally_of names tallies.names.items name ≡ tally_at tallies.names.items number =
    ap (tally_at tallies.names.items) (number_in-own names number are.single lt) in
    let here = ap (λ (t : Tally). t.cumulative) own in
    let most = weight_where-le-total (has_name name) rows in
    let tally = (are.each name).cumulative in
    let all = are.total in
    omega (arith, here, most, tally, all)

pub flat-most : (rows : List WeightedStack) (names : List (List ℕ)) (tallies : Tallies) (number : ℕ)
    → AreTalliesOf rows names tallies → number < length names
    → (tally_at tallies.names.items number).flat ≤ tallies.total
flat-most rows names tallies number are lt =
    let name = slice_index_or names number [] in
    let own : tally_of names tallies.names.items name ≡ tally_at tallies.names.items number =
    ap (tally_at tallies.names.items) (number_in-own names number are.single lt) in
    let here = ap (λ (t : Tally). t.flat) own in
    let most = weight_where-le-total (ends_with_name name) rows in
    let tally = (are.each name).flat in
    let all = are.total in
    omega (arith, here, most, tally, all)
