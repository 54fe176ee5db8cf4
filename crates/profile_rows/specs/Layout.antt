-- The layout of a flame graph: a rectangle for each path of the rows that is wide enough to be seen.
use Rattle.std.specs.Prelude.{ℕ, ◌+◌, ◌*◌, ◌/◌, Bool, List, [], ◌∷◌, map, filter, length, nat_lt}
use Rattle.profile_rows.specs.declared.weighted_stacks.WeightedStack.{WeightedStack}
use Rattle.profile_rows.specs.Rows.{total_of}
use Rattle.profile_rows.specs.Paths.{path_weight, path_start, paths_of}

-- A rectangle: how many frames its path has, the last one's name (empty for the empty path), where it starts and how
-- wide it is in units of weight, and the columns between which it is drawn.
pub record Rectangle : Type 0 where
  pub depth : ℕ
  pub name : List ℕ
  pub start : ℕ
  pub weight : ℕ
  pub left : ℕ
  pub right : ℕ

-- the column in which an offset of the total falls, rounded down; 0 where the total is 0
abbrev pub column_at : ℕ → ℕ → ℕ → ℕ
column_at columns total offset = offset * columns / total

abbrev pub last_name : List (List ℕ) → List ℕ
last_name [] = []
last_name (name ∷ []) = name
last_name (name ∷ next ∷ names) = last_name (next ∷ names)

-- the rectangle of a path among these rows: its edges are rounded, and not its width
abbrev pub rectangle_at : ℕ → List WeightedStack → List (List ℕ) → Rectangle
rectangle_at columns rows path = record {
  depth = length path;
  name = last_name path;
  start = path_start rows path;
  weight = path_weight rows path;
  left = column_at columns (total_of rows) (path_start rows path);
  right = column_at columns (total_of rows) (path_start rows path + path_weight rows path);
}

-- a rectangle that takes no column is left out
abbrev pub is_shown : Rectangle → Bool
is_shown rectangle = nat_lt rectangle.left rectangle.right

-- the rectangles of the layout, in the order of their paths
abbrev pub rectangles_of : ℕ → List WeightedStack → List Rectangle
rectangles_of columns rows = filter is_shown (map (rectangle_at columns rows) (paths_of rows))
