-- Every answer depends on the aggregate of the rows alone.
use Rattle.std.proofs.lemmas.Grind.{common_steps}
use Rattle.std.proofs.Common.{rules, ◌≡◌, ℕ, ◌+◌, true, false, List, [], ◌∷◌, ◌++◌, length, map}
use Rattle.std.proofs.Common.{filter, Option, refl, sym, ap, ◌∙◌, arith, zero-add}
use Rattle.std.specs.Prelude.{nat_lt}
use Rattle.std.specs.List.{list_any, flat_map}
use Rattle.std.specs.declared.cmp.Ordering.{Ordering}
use Rattle.std.specs.declared.cmp.Ordering.TheVariants.{Less, Equal, Greater}
use Rattle.std.specs.Ordering.{is_eq, match_ordering, ordering_then, ordering_reverse}
use Rattle.std.proofs.lemmas.List.Folds.{list_any-append}
use Rattle.std.proofs.lemmas.List.Sums.{sum_by-append, sum_by-cons}
use Rattle.std.proofs.lemmas.Bool.{ltb-false}
use Rattle.std.proofs.lemmas.Cmp.{nat_list_cmp_total}
use borrow.Author.Tests.{lt-ltb, ltb-true}
use Rattle.profile_rows.specs.declared.weighted_stacks.WeightedStack.{WeightedStack}
use Rattle.profile_rows.specs.Names.{name_cmp}
use Rattle.profile_rows.specs.Rows.{stack_cmp, is_same_stack, kept_rows, total_of}
use Rattle.profile_rows.specs.Aggregate.{aggregate_of, rows_of}
use Rattle.profile_rows.specs.Paths.{begins_with, lies_left_of, prefixes, path_weight, path_start, paths_of}
use Rattle.profile_rows.specs.Layout.{Rectangle, rectangle_at, rectangles_of, column_at, last_name, is_shown}
use Rattle.profile_rows.specs.TopList.{Ranking, top_list_of}
use Rattle.profile_rows.proofs.RowLaws.{stack_cmp_total, stack_cmp_apart, aggregate_of-same}
use Rattle.profile_rows.proofs.EntryLaws.{nothing, weight_where-same, weight_where-rows_of}
use Rattle.profile_rows.proofs.Kept.{weight_where-kept}
use Rattle.profile_rows.proofs.Members.{in_order-same}
use Rattle.profile_rows.proofs.Ranking.{top_list_of-same}
use Rattle.profile_rows.proofs.Members.{list_any-map}

-- the rows of the aggregate add up to it again
pub aggregate_of-rows_of : (rows : List WeightedStack) → aggregate_of (rows_of (aggregate_of rows)) ≡ aggregate_of rows
aggregate_of-rows_of rows =
    aggregate_of-same (rows_of (aggregate_of rows)) rows (λ stack. weight_where-rows_of (is_same_stack stack) rows)

-- aggregates of parts, put together, add up to that of all
pub aggregate_of-parts : (rows more : List WeightedStack)
    → aggregate_of (rows_of (aggregate_of rows) ++ rows_of (aggregate_of more)) ≡ aggregate_of (rows ++ more)
aggregate_of-parts rows more = search (rules, sum_by-append, aggregate_of-same, weight_where-rows_of)

-- ---- kept rows

pub kept_rows-same : (focus ignored : Option (List ℕ)) (rows others : List WeightedStack)
    → aggregate_of rows ≡ aggregate_of others
    → aggregate_of (kept_rows focus ignored rows) ≡ aggregate_of (kept_rows focus ignored others)
kept_rows-same focus ignored rows others same =
    grind (arith, common_steps, aggregate_of-same, weight_where-same, weight_where-kept)

-- ---- top lists

pub top_list_of-same_aggregate : (ranking : Ranking) (count : ℕ) (rows others : List WeightedStack)
    → aggregate_of rows ≡ aggregate_of others
    → top_list_of ranking count rows ≡ top_list_of ranking count others
top_list_of-same_aggregate ranking count rows others same =
    top_list_of-same ranking count rows others (λ test. weight_where-same test rows others same)

-- ---- paths

list_any-never : {A : Type 0} (xs : List A) → list_any (λ x. false) xs ≡ false
list_any-never [] = refl
list_any-never (x ∷ xs) = list_any-never xs

list_any-after : (o : Ordering) (path : List (List ℕ)) (paths : List (List (List ℕ)))
    → list_any (λ other. is_eq (ordering_then o (stack_cmp path other))) paths
    ≡ match_ordering (ordering_reverse o) false (list_any (is_same_stack path) paths) false
list_any-after Less path paths = list_any-never paths
list_any-after Equal path paths = refl
list_any-after Greater path paths = list_any-never paths

-- a path is among the fronts of a stack that begins with it
list_any-prefixes : (path stack : List (List ℕ))
    → list_any (is_same_stack path) (prefixes stack) ≡ begins_with name_cmp path stack
list_any-prefixes [] [] = refl
list_any-prefixes (name ∷ path) [] = refl
list_any-prefixes [] (frame ∷ stack) = refl
list_any-prefixes (name ∷ path) (frame ∷ stack) =
    list_any-map (is_same_stack (name ∷ path)) (λ rest. frame ∷ rest) (prefixes stack)
    ∙ list_any-after (name_cmp name frame) path (prefixes stack)
    ∙ ap (λ o. match_ordering o false (list_any (is_same_stack path) (prefixes stack)) false)
    (sym (nat_list_cmp_total.antisymm frame name))
    ∙ ap (λ b. match_ordering (name_cmp frame name) false b false) (list_any-prefixes path stack)

abbrev fronts : List WeightedStack → List (List (List ℕ))
fronts rows = flat_map (λ row. prefixes row.stack) rows

-- the rows have the paths that weigh something
list_any-paths : (path : List (List ℕ)) (rows : List WeightedStack)
    → list_any (is_same_stack path) (fronts (filter (λ row. nat_lt 0 row.weight) rows))
    ≡ nat_lt 0 (path_weight rows path)
list_any-paths path [] = refl
list_any-paths path (row ∷ rows) =
    grind (
      arith,
      common_steps,
      zero-add,
      list_any-append,
      sum_by-cons,
      ltb-false,
      lt-ltb,
      ltb-true,
      nothing,
      list_any-prefixes,
      list_any-paths path rows,
    )

pub paths_of-same : (rows others : List WeightedStack)
    → aggregate_of rows ≡ aggregate_of others → paths_of rows ≡ paths_of others
paths_of-same rows others same =
    in_order-same stack_cmp stack_cmp_total stack_cmp_apart
    (fronts (filter (λ row. nat_lt 0 row.weight) rows)) (fronts (filter (λ row. nat_lt 0 row.weight) others))
    (λ path. list_any-paths path rows ∙ ap (nat_lt 0) (weight_where-same (begins_with name_cmp path) rows others same)
    ∙ sym (list_any-paths path others))

-- ---- rectangles

abbrev rectangle_from : ℕ → List (List ℕ) → ℕ → ℕ → ℕ → Rectangle
rectangle_from columns path total start weight = record {
  depth = length path;
  name = last_name path;
  start = start;
  weight = weight;
  left = column_at columns total start;
  right = column_at columns total (start + weight);
}

rectangle_at-same : (columns : ℕ) (rows others : List WeightedStack) → aggregate_of rows ≡ aggregate_of others
    → (path : List (List ℕ)) → rectangle_at columns rows path ≡ rectangle_at columns others path
rectangle_at-same columns rows others same path =
    ap (λ total. rectangle_from columns path total (path_start rows path) (path_weight rows path))
    (weight_where-same (λ stack. true) rows others same)
    ∙ ap (λ start. rectangle_from columns path (total_of others) start (path_weight rows path))
    (weight_where-same (lies_left_of name_cmp path) rows others same)
    ∙ ap (λ weight. rectangle_from columns path (total_of others) (path_start others path) weight)
    (weight_where-same (begins_with name_cmp path) rows others same)

map-same : {A B : Type 0} (f g : A → B) → ((x : A) → f x ≡ g x) → (xs : List A) → map f xs ≡ map g xs
map-same f g same [] = refl
map-same f g same (x ∷ xs) = ap (λ y. y ∷ map f xs) (same x) ∙ ap (λ ys. g x ∷ ys) (map-same f g same xs)

pub rectangles_of-same : (columns : ℕ) (rows others : List WeightedStack)
    → aggregate_of rows ≡ aggregate_of others → rectangles_of columns rows ≡ rectangles_of columns others
rectangles_of-same columns rows others same =
    ap (filter is_shown)
    (map-same (rectangle_at columns rows)
    (rectangle_at columns others) (rectangle_at-same columns rows others same) (paths_of rows)
    ∙ ap (map (rectangle_at columns others)) (paths_of-same rows others same))
