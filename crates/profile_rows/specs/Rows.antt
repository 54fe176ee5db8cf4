-- The plain profile: rows of a stack and a weight, and what they weigh. Each report is a function of such a list.
use Rattle.std.specs.Prelude.{ℕ, ◌^◌, ◌<◌, ◌≤◌, All, Bool, true, false, ◌&&◌, not, length, Option, Some, None, List, []}
use Rattle.std.specs.Prelude.{◌∷◌, filter, sum_by, if◌then◌else◌}
use Rattle.std.specs.List.{list_any}
use Rattle.std.specs.declared.cmp.Ordering.{Ordering}
use Rattle.std.specs.Ordering.{nat_cmp, eq_by_cmp}
use Rattle.std.specs.Cmp.Lexicographic.{slice_cmp}
use Rattle.profile_rows.specs.declared.weighted_stacks.WeightedStack.{WeightedStack}
use Rattle.profile_rows.specs.Limits.{most_frames}
use Rattle.profile_rows.specs.Names.{IsName, is_same_name}

-- stacks are ordered as lists of names, root first: a proper prefix comes before what it begins
abbrev pub stack_cmp : List (List ℕ) → List (List ℕ) → Ordering
stack_cmp = slice_cmp (slice_cmp nat_cmp)

abbrev pub is_same_stack : List (List ℕ) → List (List ℕ) → Bool
is_same_stack = eq_by_cmp (slice_cmp (slice_cmp nat_cmp))

-- what every row of a batch is: its names are names, within the limits
pub record IsBatchRow (row : WeightedStack) : Type 0 where
  pub names : All IsName row.stack
  pub depth : length row.stack ≤ most_frames
  pub fits : row.weight < 2 ^ 63

-- whether some frame of the stack has the name, however many do
abbrev pub has_name : List ℕ → List (List ℕ) → Bool
has_name name stack = list_any (is_same_name name) stack

-- whether the leaf of the stack, its last frame, has the name
abbrev pub ends_with_name : List ℕ → List (List ℕ) → Bool
ends_with_name name [] = false
ends_with_name name (leaf ∷ []) = is_same_name name leaf
ends_with_name name (frame ∷ next ∷ frames) = ends_with_name name (next ∷ frames)

-- what one row gives to a sum over the stacks that pass a test
abbrev pub weight_if : (List (List ℕ) → Bool) → WeightedStack → ℕ
weight_if test row = if test row.stack then row.weight else 0

-- the weight of the rows whose stack passes a test, each row once
abbrev pub weight_where : (List (List ℕ) → Bool) → List WeightedStack → ℕ
weight_where test rows = sum_by (weight_if test) rows

-- the weight of all rows
abbrev pub total_of : List WeightedStack → ℕ
total_of rows = sum_by (λ row. row.weight) rows

-- the weight of one stack
abbrev pub weight_of : List WeightedStack → List (List ℕ) → ℕ
weight_of rows stack = weight_where (is_same_stack stack) rows

-- The flat weight of a name, as pprof has it: the rows whose leaf it is.
abbrev pub flat_weight_of : List WeightedStack → List ℕ → ℕ
flat_weight_of rows name = weight_where (ends_with_name name) rows

-- The cumulative weight of a name, as pprof has it: the rows whose stack contains it, each row once.
abbrev pub cumulative_weight_of : List WeightedStack → List ℕ → ℕ
cumulative_weight_of rows name = weight_where (has_name name) rows

-- whether a stack contains the focus, where there is one, and doesn't contain the ignored name, where there is one
abbrev pub is_kept : Option (List ℕ) → Option (List ℕ) → List (List ℕ) → Bool
is_kept None None stack = true
is_kept None (Some ignored) stack = not (has_name ignored stack)
is_kept (Some focus) None stack = has_name focus stack
is_kept (Some focus) (Some ignored) stack = has_name focus stack && not (has_name ignored stack)

-- the rows that a focus and an ignored name leave
abbrev pub kept_rows : Option (List ℕ) → Option (List ℕ) → List WeightedStack → List WeightedStack
kept_rows focus ignored rows = filter (λ row. is_kept focus ignored row.stack) rows
