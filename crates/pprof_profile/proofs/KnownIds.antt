-- Ids that are known, and ids that stand twice.
use Rattle.std.proofs.lemmas.Grind.{common_steps}
use Rattle.std.proofs.Common.{◌≡◌, ℕ, ◌+◌, ◌<◌, Bool, true, false, ◌||◌, List, [], ◌∷◌, ◌++◌, length, map, take, drop}
use Rattle.std.proofs.Common.{get_or, refl, sym, ap, ◌∙◌, arith, nat_eq, append_assoc, take-append-drop}
use Rattle.std.proofs.lemmas.List.{map-append, take_more}
use Rattle.std.proofs.lemmas.List.Folds.{list_any-append}
use Rattle.std.proofs.lemmas.Bool.{or_parts}
use mathlib.Core.Bool.{or-true}
use Rattle.pprof_profile.specs.Valid.{is_known, has_double}

eq_turned : (a b : ℕ) → nat_eq a b ≡ false → nat_eq b a ≡ false
eq_turned a b h = grind arith

known_more : (ids : List ℕ) (id other : ℕ)
    → is_known ids other ≡ false → nat_eq other id ≡ false → is_known (ids ++ id ∷ []) other ≡ false
known_more ids id other h apart = grind (arith, list_any-append (nat_eq other) ids (id ∷ []))

pub single_more : (ids : List ℕ) (id : ℕ)
    → has_double ids ≡ false → is_known ids id ≡ false → has_double (ids ++ id ∷ []) ≡ false
single_more [] id single new = refl
single_more (x ∷ ids) id single new = grind (arith, common_steps, or_parts, eq_turned, known_more, single_more ids id)

known_inside : (front back : List ℕ) (id : ℕ) → is_known (front ++ id ∷ back) id ≡ true
known_inside [] back id = grind arith
known_inside (x ∷ front) back id = rw (known_inside front back id) (or-true (nat_eq id x))

double_first : (same : Bool) (x : ℕ) (front back : List ℕ) (id : ℕ) → nat_eq id x ≡ same
    → (is_known front id ≡ true → has_double (front ++ id ∷ back) ≡ true)
    → (same || is_known front id) ≡ true → (is_known (front ++ id ∷ back) x || has_double (front ++ id ∷ back)) ≡ true
double_first true x front back id here later known = grind (arith, common_steps, known_inside)
double_first false x front back id here later known = rw (later known) (or-true (is_known (front ++ id ∷ back) x))

pub double_inside : (front back : List ℕ) (id : ℕ) → is_known front id ≡ true → has_double (front ++ id ∷ back) ≡ true
double_inside [] back id known = absurd cc
double_inside (x ∷ front) back id known =
    double_first (nat_eq id x) x front back id refl (double_inside front back id) known

pub ids_more : {X : Type 0} (id_of : X → ℕ) (items : List X) (i : ℕ) (item : X) (id : ℕ)
    → i < length items → item ≡ get_or items i item → id ≡ id_of item
    → map id_of (take (i + 1) items) ≡ map id_of (take i items) ++ id ∷ []
ids_more id_of items i item id within is named = grind (arith, common_steps, map-append, take_more)

pub ids_inside : {X : Type 0} (id_of : X → ℕ) (items : List X) (i : ℕ) (item : X) (id : ℕ)
    → i < length items → item ≡ get_or items i item → id ≡ id_of item
    → map id_of items ≡ map id_of (take i items) ++ id ∷ map id_of (drop (i + 1) items)
ids_inside id_of items i item id within is named =
    ap (map id_of) (sym (take-append-drop (i + 1) items)) ∙ map-append id_of (take (i + 1) items) (drop (i + 1) items)
    ∙ ap (λ (xs : List ℕ). xs ++ map id_of (drop (i + 1) items)) (ids_more id_of items i item id within is named)
    ∙ append_assoc (map id_of (take i items)) (id ∷ []) (map id_of (drop (i + 1) items))
