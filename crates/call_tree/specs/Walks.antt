-- A walk from the root along the frames of a stack.
use Rattle.std.specs.Prelude.{ℕ, ◌≡◌, ◌<◌, Bool, List, length, take, slice_index_or}
use Rattle.std.specs.List.{list_any}
use Rattle.profile_rows.specs.Names.{is_same_name}
use Rattle.profile_rows.specs.Rows.{has_name}
use Rattle.call_tree.specs.State.{PlainTree, name_at, stack_at}

-- of the names with the numbers in a list, one is this
abbrev pub has_name_numbered : List (List ℕ) → List ℕ → List ℕ → Bool
has_name_numbered names name numbers = list_any (λ number. is_same_name name (name_at names number)) numbers

-- after some frames the walk is at the node of just these frames, and knows their names by their numbers
pub record IsOnPath (tree : PlainTree) (seen : List ℕ) (frames : List (List ℕ)) (depth slot : ℕ) : Type 0 where
  pub slot_lt : slot < length tree.nodes
  pub here : stack_at tree.nodes slot ≡ take depth frames
  pub below : (j : ℕ) → j < length seen → slice_index_or seen j 0 < length tree.names
  pub seen_is : (name : List ℕ) → has_name_numbered tree.names name seen ≡ has_name name (take depth frames)
