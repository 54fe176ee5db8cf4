-- The paths of rows are those of some weight, in order; the rectangles of a layout are those of the paths that are
-- wide enough.
use Rattle.std.proofs.lemmas.Grind.{common_steps}
use Rattle.std.proofs.Common.{rules, ◌≡◌, ℕ, ◌<◌, Bool, true, List, [], ◌∷◌, ◌++◌, map, filter, refl, sym, ap, ◌∙◌}
use Rattle.std.proofs.Common.{arith}
use Rattle.std.specs.Prelude.{nat_lt}
use Rattle.std.specs.List.{AllPairs, Contains, list_any, flat_map}
use Rattle.std.specs.declared.cmp.Ordering.TheVariants.{Less}
use Rattle.std.proofs.lemmas.Bool.{ltb-true, ltb-false, lt-ltb}
use Rattle.std.proofs.lemmas.Cmp.{eq_by_cmp_equiv}
use Rattle.std.proofs.lemmas.List.Elements.{All-contains, All-from_recursion, filter_passes}
use Rattle.std.proofs.lemmas.List.{get_or-map, length-map}
use Rattle.std.proofs.lemmas.List.Kept.{AllPairs-cons}
use Rattle.std.proofs.lemmas.Map.Views.{any-filter_same, Contains-from_any, list_any-from_Contains}
use Rattle.profile_rows.specs.declared.weighted_stacks.WeightedStack.{WeightedStack}
use Rattle.profile_rows.specs.Layout.{is_shown, rectangle_at, rectangles_of}
use Rattle.profile_rows.specs.Paths.{path_weight, paths_of, prefixes}
use Rattle.profile_rows.specs.Rows.{stack_cmp, is_same_stack}
use Rattle.profile_rows.proofs.Members.{Rises, in_order-Rises, member-in_order}
use Rattle.profile_rows.proofs.RowLaws.{stack_cmp_total, stack_cmp_apart, same_from_is_same_stack}
use Rattle.flame_report.proofs.PathOrder.{Path}
use Rattle.flame_report.proofs.NewPaths.{among-all, begins_row}
use Rattle.flame_report.proofs.RowSums.{weight_where-cons}
use Rattle.flame_report.proofs.Spans.{parents_are_shown}

-- a path begins some row that weighs something where it weighs something itself
found_weighs : (path : Path) (rows : List WeightedStack)
    → list_any (begins_row path) (filter (λ row. nat_lt 0 row.weight) rows) ≡ nat_lt 0 (path_weight rows path)
found_weighs path [] = refl
found_weighs path (row ∷ rows) = grind (arith, common_steps, weight_where-cons, found_weighs path rows)

listed : (path : Path) (rows : List WeightedStack)
    → list_any (is_same_stack path) (paths_of rows) ≡ nat_lt 0 (path_weight rows path)
listed path rows =
    member-in_order stack_cmp stack_cmp_total stack_cmp_apart path
    (flat_map (λ row. prefixes row.stack) (filter (λ row. nat_lt 0 row.weight) rows))
    ∙ among-all path (filter (λ row. nat_lt 0 row.weight) rows) ∙ found_weighs path rows

pub weighty_path : (rows : List WeightedStack) (path : Path)
    → 0 < path_weight rows path → Contains (paths_of rows) path
weighty_path rows path some =
    Contains-from_any same_from_is_same_stack path (paths_of rows)
    (listed path rows ∙ lt-ltb 0 (path_weight rows path) some)

pub listed_weighs : (rows : List WeightedStack) (path : Path)
    → Contains (paths_of rows) path → 0 < path_weight rows path
listed_weighs rows path found = ltb-true 0 (path_weight rows path)
    (sym (listed path rows) ∙ list_any-from_Contains (eq_by_cmp_equiv stack_cmp_total) path (paths_of rows) found)

-- ---- in order

in_pairs : (paths : List (List (List ℕ)))
    → Rises stack_cmp stack_cmp_total stack_cmp_apart paths → AllPairs (λ a b. stack_cmp a b ≡ Less) paths
in_pairs [] up = λ i j d lt short. absurd (omega arith)
in_pairs (path ∷ paths) up = grind (arith, common_steps, All-from_recursion, AllPairs-cons, in_pairs paths up.1)

pub paths_ascend : (rows : List WeightedStack) → AllPairs (λ a b. stack_cmp a b ≡ Less) (paths_of rows)
paths_ascend rows = search (rules, in_order-Rises, stack_cmp_total, stack_cmp_apart, in_pairs)

filter-map : {X Y : Type 0} (test : X → Bool) (f : Y → X) (ys : List Y)
    → filter test (map f ys) ≡ map f (filter (λ y. test (f y)) ys)
filter-map test f [] = refl
filter-map test f (y ∷ ys) = grind (arith, common_steps, filter-map test f ys)

pub drawn_in_order : (columns : ℕ) (rows : List WeightedStack)
    → rectangles_of columns rows
    ≡ map (rectangle_at columns rows) (filter (λ path. is_shown (rectangle_at columns rows path)) (paths_of rows))
drawn_in_order columns rows = filter-map is_shown (rectangle_at columns rows) (paths_of rows)

wide_weighs : (columns : ℕ) (rows : List WeightedStack) (path : List (List ℕ))
    → is_shown (rectangle_at columns rows path) ≡ true → 0 < path_weight rows path
wide_weighs columns rows path wide = grind (arith, common_steps, ltb-true, ltb-false)

Contains-map : {X Y : Type 0} (f : X → Y) (xs : List X) (x : X) → Contains xs x → Contains (map f xs) (f x)
Contains-map f xs x (k, lt, is) = (k, omega (arith, lt, length-map xs f), get_or-map f xs k x (f x) lt ∙ ap f is)

pub shown_listed : (columns : ℕ) (rows : List WeightedStack) (path : Path) → is_shown
    (rectangle_at columns rows path) ≡ true → Contains (rectangles_of columns rows) (rectangle_at columns rows path)
shown_listed columns rows path wide =
    let kept = any-filter_same (is_same_stack path) (λ p. is_shown (rectangle_at columns rows p)) true
    (λ p same. ap (λ p. is_shown (rectangle_at columns rows p)) (sym (same_from_is_same_stack path p same)) ∙ wide)
    (paths_of rows) ∙ listed path rows ∙ lt-ltb 0 (path_weight rows path) (wide_weighs columns rows path wide) in
    rw (drawn_in_order columns rows) (Contains-map (rectangle_at columns rows) _ path
    (Contains-from_any same_from_is_same_stack path _ kept))

pub parents_listed : (columns : ℕ) (rows : List WeightedStack) (path rest : Path)
    → Contains (rectangles_of columns rows) (rectangle_at columns rows (path ++ rest))
    → Contains (rectangles_of columns rows) (rectangle_at columns rows path)
parents_listed columns rows path rest found =
    shown_listed columns rows path (parents_are_shown columns rows path rest (All-contains (λ r. is_shown r ≡ true)
    (rectangles_of columns rows) (rectangle_at columns rows (path ++ rest))
    (filter_passes is_shown (map (rectangle_at columns rows) (paths_of rows))) found))
