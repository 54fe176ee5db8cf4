-- The paths that a layout visits are the paths of the rows.
use Rattle.std.proofs.lemmas.Grind.{common_steps}
use Rattle.std.proofs.Common.{ℕ, ◌≡◌, ◌<◌, ◌≤◌, ◌+◌, List, [], ◌∷◌, ◌++◌, length, take, drop, get_or, map, refl, sym}
use Rattle.std.proofs.Common.{All, ap, ◌∙◌, arith, zero, suc, true, false, Bool, ◌&&◌, filter}
use Rattle.std.specs.Prelude.{nat_lt, nat_le}
use Rattle.std.specs.List.{list_any, flat_map, AllPairs}
use Rattle.std.specs.Ordering.{is_eq, eq_by_cmp}
use Rattle.std.specs.declared.cmp.Ordering.TheVariants.{Less}
use Rattle.std.proofs.lemmas.Bool.{lt-ltb}
use Rattle.std.proofs.lemmas.List.{drop-map, take_all, get_or-take, length-take-le}
use Rattle.std.proofs.lemmas.List.Elements.{recursion_from_All}
use Rattle.std.proofs.lemmas.List.Folds.{Any-from_list_any, list_any-append, list_any_at}
use Rattle.std.proofs.lemmas.Cmp.{eq_by_cmp_equiv}
use Rattle.std.proofs.lemmas.Map.Views.{All-from_any}
use Rattle.std.proofs.Math.Seq.{take-suc}
use Rattle.profile_rows.specs.declared.weighted_stacks.WeightedStack.{WeightedStack}
use Rattle.profile_rows.specs.Names.{name_cmp}
use Rattle.profile_rows.specs.Paths.{paths_of, prefixes}
use Rattle.profile_rows.specs.Order.{in_order}
use Rattle.profile_rows.specs.Rows.{stack_cmp}
use Rattle.profile_rows.specs.Aggregate.{AreWeighty, IsAscending}
use Rattle.profile_rows.proofs.Members.{Rises, same_members, in_order-Rises, member-in_order}
use Rattle.profile_rows.proofs.RowLaws.{stack_cmp_total, stack_cmp_apart}
use Rattle.call_tree.specs.State.{stack_at}
use Rattle.flame_report.specs.Sharing.{known_at}
use Rattle.flame_report.proofs.PathOrder.{Path, begins, before_new, prefix_shared, take_begins_with, turned, take_less}
use Rattle.flame_report.proofs.Pairs.{AllPairs-head, AllPairs-tail, AllPairs-append}
use Rattle.flame_report.proofs.Prefixes.{drop-prefixes}
use Rattle.flame_report.proofs.RowSums.{in_order as rows_in_order, new_path-first, stack_at-get}

-- the paths of the rows before an index, each where it first comes
abbrev pub paths_until : List WeightedStack → ℕ → List Path
paths_until rows zero = []
paths_until rows (suc n) = paths_until rows n ++ drop (known_at rows n) (prefixes (stack_at rows n))

-- whether a path is among these
abbrev is_among : Path → List Path → Bool
is_among path paths = list_any (λ p. eq_by_cmp stack_cmp path p) paths

-- a list of paths that begin with one name
among-map : (q : Path) (n f : List ℕ) (ps : List Path)
    → is_among (n ∷ q) (map (λ p. f ∷ p) ps) ≡ (is_eq (name_cmp n f) && is_among q ps)
among-map q n f [] = grind arith
among-map q n f (p ∷ ps) = grind (arith, among-map q n f ps)

among-map_empty : (f : List ℕ) (ps : List Path) → is_among [] (map (λ p. f ∷ p) ps) ≡ false
among-map_empty f [] = refl
among-map_empty f (p ∷ ps) = among-map_empty f ps

-- the paths of a stack from one on are what it begins with that is long enough
among-new : (k : ℕ) (q s : Path) → is_among q (drop k (prefixes s)) ≡ (nat_le k (length q) && begins q s)
among-new zero [] [] = refl
among-new zero [] (f ∷ s) = refl
among-new zero (n ∷ q) [] = grind (arith, common_steps)
among-new zero (n ∷ q) (f ∷ s) = grind (arith, turned, among-map, among-new zero q s)
among-new (suc k) [] [] = grind (arith, common_steps)
among-new (suc k) (n ∷ q) [] = grind (arith, common_steps)
among-new (suc k) [] (f ∷ s) = rw (drop-map (λ p. f ∷ p) k (prefixes s))
    (grind (arith, common_steps, among-map_empty f (drop k (prefixes s))))
among-new (suc k) (n ∷ q) (f ∷ s) = grind (arith, turned, drop-map, among-map, among-new k q s)

abbrev pub begins_row : Path → WeightedStack → Bool
begins_row q row = begins q row.stack

-- what begins a row and isn't new begins the row before
known_before : (rows : List WeightedStack) (n : ℕ) (q : Path) → n < length rows → begins q (stack_at rows n) ≡ true
    → length q < known_at rows n → list_any (begins_row q) (take n rows) ≡ true
known_before rows zero q h a short = absurd (omega arith)
known_before rows (suc n) q h a short =
    let d : WeightedStack = record { stack = []; weight = 0 } in
    let part = prefix_shared q (stack_at rows n) (stack_at rows (suc n)) (omega arith) in
    grind (arith, common_steps, stack_at-get rows n d, list_any_at (begins_row q) (take (suc n) rows) n d)

among-until : (rows : List WeightedStack) (n : ℕ) (q : Path)
    → n ≤ length rows → is_among q (paths_until rows n) ≡ list_any (begins_row q) (take n rows)
among-until rows zero q h = refl
among-until rows (suc n) q h =
    let d : WeightedStack = record { stack = []; weight = 0 } in
    let known = known_before rows n q (omega arith) in
    let more : take (suc n) rows ≡ take n rows ++ get_or rows n d ∷ [] = take-suc rows n d (omega arith) in
    grind (arith, list_any-append, among-new, stack_at-get rows n d, among-until rows n q (omega arith))

pub among-all : (q : Path) (rows : List WeightedStack)
    → is_among q (flat_map (λ row. prefixes row.stack) rows) ≡ list_any (begins_row q) rows
among-all q [] = refl
among-all q (row ∷ rows) = grind (arith, list_any-append, among-new 0 q row.stack, among-all q rows)

-- each path comes before those after it
abbrev pub IsBefore : Path → Path → Type 0
IsBefore p q = stack_cmp p q ≡ Less

rises_from_pairs : (ps : List Path) → AllPairs IsBefore ps → Rises stack_cmp stack_cmp_total stack_cmp_apart ps
rises_from_pairs [] up = tt
rises_from_pairs (p ∷ ps) up =
    let rest = rises_from_pairs ps (AllPairs-tail IsBefore p ps up) in
    (recursion_from_All (IsBefore p) ps (AllPairs-head IsBefore p ps up), rest)

-- the paths so far begin earlier rows
begins_earlier : (rows : List WeightedStack) (n : ℕ) (q : Path) → n ≤ length rows
    → is_among q (paths_until rows n) ≡ true → (j : ℕ) × (j < n) × (begins q (stack_at rows j) ≡ true)
begins_earlier rows n q h found =
    grind (arith, common_steps, get_or-take, length-take-le, Any-from_list_any, stack_at-get, among-until)

until-rises : (rows : List WeightedStack) (n : ℕ)
    → IsAscending rows → n ≤ length rows → AllPairs IsBefore (paths_until rows n)
until-rises rows zero up h = λ i j d low high. absurd (omega arith)
until-rises rows (suc n) up h =
    let new = drop-prefixes (stack_at rows n) (known_at rows n) in
    AllPairs-append IsBefore (paths_until rows n) (drop (known_at rows n) (prefixes (stack_at rows n)))
    (until-rises rows n up (omega arith))
    (λ i j d low high. rw ((new i d (omega arith)).1, (new j d high).1)
    (take_less (known_at rows n + i) (known_at rows n + j) (stack_at rows n) (omega arith) ((new j d high).0)))
    (All-from_any (eq_by_cmp_equiv stack_cmp_total)
    (λ p. All (IsBefore p) (drop (known_at rows n) (prefixes (stack_at rows n)))) (paths_until rows n) (λ p found j d l.
    let (k, below, begun) = begins_earlier rows n p (omega arith) found in
    rw ((new j d l).1) (before_new p (take (known_at rows n + j) (stack_at rows n)) (stack_at rows k) (stack_at rows n)
    begun (rows_in_order rows k n up below (omega arith)) (take_begins_with (known_at rows n + j) (stack_at rows n))
    (new_path-first rows n (known_at rows n + j) up (omega arith) (omega arith) ((new j d l).0) k below))))

weighty : (rows : List WeightedStack) → AreWeighty rows → filter (λ row. nat_lt 0 row.weight) rows ≡ rows
weighty [] all = refl
weighty (row ∷ rows) all =
    let here = lt-ltb 0 row.weight (all 0 row (omega arith)) in
    rw (here, weighty rows (λ k d h. all (suc k) d (omega arith))) refl

pub paths_until-whole : (rows : List WeightedStack)
    → IsAscending rows → AreWeighty rows → paths_until rows (length rows) ≡ paths_of rows
paths_until-whole rows up all =
    let paths : List Path = flat_map (λ row. prefixes row.stack) rows in
    rw (weighty rows all) (same_members stack_cmp stack_cmp_total stack_cmp_apart
    (paths_until rows (length rows)) (in_order stack_cmp (flat_map (λ row. prefixes row.stack) rows))
    (rises_from_pairs (paths_until rows (length rows)) (until-rises rows (length rows) up (omega arith)))
    (in_order-Rises stack_cmp stack_cmp_total stack_cmp_apart (flat_map (λ row. prefixes row.stack) rows))
    (λ q. among-until rows (length rows) q (omega arith)
    ∙ ap (list_any (begins_row q)) (take_all (length rows) rows (omega arith)) ∙ sym (among-all q rows)
    ∙ sym (member-in_order stack_cmp stack_cmp_total stack_cmp_apart q paths)))
