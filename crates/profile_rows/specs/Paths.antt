-- Paths: the fronts of stacks. A flame graph has a rectangle for each.
use Rattle.std.specs.Prelude.{ℕ, Bool, true, false, List, [], ◌∷◌, map, filter, nat_lt}
use Rattle.std.specs.List.{flat_map}
use Rattle.std.specs.Ordering.{match_ordering}
use Rattle.std.specs.declared.cmp.Ordering.{Ordering}
use Rattle.profile_rows.specs.declared.weighted_stacks.WeightedStack.{WeightedStack}
use Rattle.profile_rows.specs.Names.{name_cmp}
use Rattle.profile_rows.specs.Order.{in_order}
use Rattle.profile_rows.specs.Rows.{stack_cmp, weight_where}

-- names in the order `cmp`, and lists of them
module _ {K : Type 0} (cmp : K → K → Ordering) where
  -- the stack begins with the path
  abbrev pub begins_with : List K → List K → Bool
  begins_with [] stack = true
  begins_with (name ∷ path) [] = false
  begins_with (name ∷ path) (frame ∷ stack) = match_ordering (cmp frame name) false (begins_with path stack) false

  -- at the first place where both have a name and the names differ, the stack has the smaller one
  abbrev pub lies_left_of : List K → List K → Bool
  lies_left_of [] stack = false
  lies_left_of (name ∷ path) [] = false
  lies_left_of (name ∷ path) (frame ∷ stack) = match_ordering (cmp frame name) true (lies_left_of path stack) false

-- the paths of a stack, from the empty one to the stack itself
abbrev pub prefixes : {K : Type 0} → List K → List (List K)
prefixes [] = [] ∷ []
prefixes (name ∷ names) = [] ∷ map (λ path. name ∷ path) (prefixes names)

-- the width of a path: the weight of the rows whose stack begins with it
abbrev pub path_weight : List WeightedStack → List (List ℕ) → ℕ
path_weight rows path = weight_where (begins_with name_cmp path) rows

-- where a path starts: the weight of the rows that lie left of it
abbrev pub path_start : List WeightedStack → List (List ℕ) → ℕ
path_start rows path = weight_where (lies_left_of name_cmp path) rows

-- the paths of the rows that weigh something, each once, in their order
abbrev pub paths_of : List WeightedStack → List (List (List ℕ))
paths_of rows = in_order stack_cmp (flat_map (λ row. prefixes row.stack) (filter (λ row. nat_lt 0 row.weight) rows))
