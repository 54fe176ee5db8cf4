-- What the stacks of rows in order share, row by row.
use Rattle.std.specs.Prelude.{ℕ, ◌≡◌, ◌<◌, ◌≤◌, ◌+◌, ◌^◌, List, map, filter, length, take, slice_index_or, ⊤}
use Prim.Native.Nat.{zero, suc}
use Rattle.std.specs.Ordering.{eq_by_cmp}
use Rattle.std.specs.List.{common_prefix_len}
use Rattle.profile_rows.specs.declared.weighted_stacks.WeightedStack.{WeightedStack}
use Rattle.profile_rows.specs.Layout.{Rectangle, is_shown, rectangle_at}
use Rattle.profile_rows.specs.Names.{name_cmp}
use Rattle.profile_rows.specs.Paths.{begins_with}
use Rattle.profile_rows.specs.Aggregate.{AreWeighty, IsAscending}
use Rattle.profile_rows.specs.Rows.{total_of, weight_where}
use Rattle.call_tree.specs.State.{stack_at}
use Rattle.flame_report.specs.declared.layout.Plan.{Plan}
use Rattle.flame_report.specs.declared.layout.Shape.{Shape}
use Rattle.flame_report.specs.declared.layout.Span.{Span}

-- how many paths two stacks have in common: the empty one, and one for each common name
abbrev pub shared_paths : List (List ℕ) → List (List ℕ) → ℕ
shared_paths before stack = common_prefix_len (eq_by_cmp name_cmp) before stack + 1

-- how many of the paths of the row at an index the row before has too
abbrev pub known_at : List WeightedStack → ℕ → ℕ
known_at rows zero = 0
known_at rows (suc k) = shared_paths (stack_at rows k) (stack_at rows (suc k))

-- how many paths of the row at an index the row before has too, and how many names its stack has
abbrev pub shape_of : List WeightedStack → ℕ → Shape
shape_of rows k = record { known = known_at rows k; depth = length (stack_at rows k) }

-- the shape of each row
pub record AreShapes (shapes : List Shape) (rows : List WeightedStack) : Type 0 where
  pub each : length shapes ≡ length rows
  pub at : (k : ℕ) (other : Shape) → k < length rows → slice_index_or shapes k other ≡ shape_of rows k

-- rows in order, with their shapes
pub record IsPlan (plan : Plan) : Type 0 where
  pub ascending : IsAscending plan.rows.now
  pub weighty : AreWeighty plan.rows.now
  pub shapes : AreShapes plan.shapes.items plan.rows.now
  pub fits : total_of plan.rows.now < 2 ^ 63

-- the weight of the rows before an index whose stacks are prefixes of the path: their own weight lies right of it
abbrev pub held_weight : List WeightedStack → ℕ → List (List ℕ) → ℕ
held_weight rows n path = weight_where (λ stack. begins_with name_cmp stack path) (take n rows)

-- for each path of the last row before an index, the weight of the rows before it that are prefixes of it
abbrev pub AreHeld : List ℕ → List WeightedStack → ℕ → Type 0
AreHeld held rows zero = ⊤
AreHeld held rows (suc n) = (length held ≡ length (stack_at rows n) + 1)
    × ((e : ℕ) → e ≤ length (stack_at rows n)
    → slice_index_or held e 0 ≡ held_weight rows (suc n) (take e (stack_at rows n)))

-- the rectangles of these paths that are wide enough
abbrev pub shown_of : ℕ → List WeightedStack → List (List (List ℕ)) → List Rectangle
shown_of columns rows paths = filter is_shown (map (rectangle_at columns rows) paths)

-- where a rectangle stands
abbrev pub span_of : Rectangle → Span
span_of rectangle =
    record { start = rectangle.start; weight = rectangle.weight; left = rectangle.left; right = rectangle.right }
