-- A child lies inside its parent, and columns keep order.
use Rattle.std.proofs.Common.{ℕ, ◌≡◌, ◌≤◌, ◌+◌, ◌*◌, List, ◌++◌, arith, true, zero, suc}
use Rattle.std.proofs.lemmas.Bool.{lt-ltb, ltb-true}
use Rattle.std.proofs.Math.Nat.{div-zero, div-mul-le_self, mul-le-mul_right, le-div_iff_mul-le}
use Rattle.profile_rows.specs.declared.weighted_stacks.WeightedStack.{WeightedStack}
use Rattle.profile_rows.specs.Paths.{path_start, path_weight}
use Rattle.profile_rows.specs.Layout.{column_at, is_shown, rectangle_at}
use Rattle.flame_report.proofs.PathOrder as order
use Rattle.flame_report.proofs.PathOrder.{Path, is_left, is_left_of_end}
use Rattle.flame_report.proofs.RowSums.{span_end, weight_where-le}

-- a child begins no earlier than its parent
pub child_starts_inside : (rows : List WeightedStack) (path rest : Path)
    → path_start rows path ≤ path_start rows (path ++ rest)
child_starts_inside rows path rest =
    weight_where-le (is_left path) (is_left (path ++ rest)) rows
    (λ s left. grind (arith, order.left-append path rest s))

-- and ends no later
pub child_ends_inside : (rows : List WeightedStack) (path rest : Path)
    → path_start rows (path ++ rest) + path_weight rows (path ++ rest) ≤ path_start rows path + path_weight rows path
child_ends_inside rows path rest =
    let inside = weight_where-le (is_left_of_end (path ++ rest)) (is_left_of_end path) rows
    (λ s here. grind (arith, order.end-append path rest s)) in
    omega (arith, inside, span_end rows path, span_end rows (path ++ rest))

-- columns keep the order of weights
pub columns_keep_order : (columns total a b : ℕ) → a ≤ b → column_at columns total a ≤ column_at columns total b
columns_keep_order columns zero a b h = rw (div-zero (a * columns), div-zero (b * columns)) (omega arith)
columns_keep_order columns (suc total) a b h =
    let below = div-mul-le_self (a * columns) (suc total) in
    let grows = mul-le-mul_right columns h in
    (le-div_iff_mul-le (omega arith)).1 (omega (arith, below, grows))

pub parents_are_shown : (columns : ℕ) (rows : List WeightedStack) (path rest : Path)
    → is_shown (rectangle_at columns rows (path ++ rest)) ≡ true → is_shown (rectangle_at columns rows path) ≡ true
parents_are_shown columns rows path rest wide =
    grind (
      arith,
      child_starts_inside rows path rest,
      child_ends_inside rows path rest,
      columns_keep_order,
      lt-ltb,
      ltb-true,
    )
