-- What contracts see of a tree.
use Rattle.std.specs.Prelude.{ℕ, ◌≡◌, ◌<◌, ◌≤◌, ◌^◌, Bool, ◌&&◌, not, nat_eq, nat_lt, Option, Some, List, [], ◌∷◌}
use Rattle.std.specs.Prelude.{◌++◌, length, slice_index_or}
use Rattle.profile_rows.specs.declared.weighted_stacks.WeightedStack.{WeightedStack}
use Rattle.profile_rows.specs.Limits.{most_frames}
use Rattle.profile_rows.specs.Merging.{row_at}
use Rattle.profile_rows.specs.Rows.{has_name, total_of}
use Rattle.profile_rows.specs.Aggregate.{Weighted, aggregate_of, rows_of}

-- A tree by one value: the names by their numbers, and for each node in order its stack and the weight of that stack
-- alone.
pub record PlainTree : Type 0 where
  pub names : List (List ℕ)
  pub nodes : List WeightedStack

-- how many values there are, the names by their numbers, and for each value the nodes by it
pub record TreeState : Type 0 where
  pub width : ℕ
  pub names : List (List ℕ)
  pub values : List (List WeightedStack)

-- the nodes by one value; none past the width
abbrev pub nodes_at : TreeState → ℕ → List WeightedStack
nodes_at tree value = slice_index_or tree.values value []

-- the tree by one value
abbrev pub plain_at : TreeState → ℕ → PlainTree
plain_at tree value = record { names = tree.names; nodes = nodes_at tree value }

-- the map that the tree stands for by one value
abbrev pub weights_of : TreeState → ℕ → Weighted
weights_of tree value = aggregate_of (nodes_at tree value)

-- the weight of all stacks together
abbrev pub total_in : Weighted → ℕ
total_in weights = total_of (rows_of weights)

abbrev pub name_at : List (List ℕ) → ℕ → List ℕ
name_at names number = slice_index_or names number []

abbrev pub stack_at : List WeightedStack → ℕ → List (List ℕ)
stack_at nodes at = (row_at nodes at).stack

abbrev pub has_weight : WeightedStack → Bool
has_weight row = nat_lt 0 row.weight

-- a node and a name that make up a stack
pub record HasParent (tree : PlainTree) (stack : List (List ℕ)) (name : List ℕ) : Type 0 where
  pub parent : ℕ
  pub number : ℕ
  pub parent_lt : parent < length tree.nodes
  pub number_lt : number < length tree.names
  pub parent_stack : stack_at tree.nodes parent ≡ stack
  pub name_is : name_at tree.names number ≡ name

-- each stack has one node and each name one number, within the limits of frames and of weights
pub record HasOwnStacks (tree : PlainTree) : Type 0 where
  pub apart : (i j : ℕ) → i < length tree.nodes → j < length tree.nodes
      → stack_at tree.nodes i ≡ stack_at tree.nodes j
      → i ≡ j
  pub unlike : (i j : ℕ) → i < length tree.names → j < length tree.names
      → name_at tree.names i ≡ name_at tree.names j
      → i ≡ j
  pub deep : (k : ℕ) → k < length tree.nodes → length (stack_at tree.nodes k) ≤ most_frames
  pub fits : total_of tree.nodes < 2 ^ 63

-- what every tree keeps true by each value: the root has the empty stack, no two nodes have one stack and no two
-- numbers one name, and a node's parent is a node
pub record IsState (tree : PlainTree) : Type 0 where
  pub rooted : 0 < length tree.nodes
  pub root : stack_at tree.nodes 0 ≡ []
  pub closed : (k : ℕ) (stack : List (List ℕ)) (name : List ℕ) → k < length tree.nodes
      → stack_at tree.nodes k ≡ stack ++ name ∷ [] → HasParent tree stack name
  pub own : HasOwnStacks tree

-- what every tree keeps true: there is a value, and by each value the nodes are the same but for their weights
pub record AreStates (tree : TreeState) : Type 0 where
  pub some : 0 < tree.width
  pub width : length tree.values ≡ tree.width
  pub each : (value : ℕ) → value < tree.width → IsState (plain_at tree value)
  pub sizes : (value : ℕ) → value < tree.width → length (nodes_at tree value) ≡ length (nodes_at tree 0)
  pub stacks : (value k : ℕ) → value < tree.width
      → stack_at (nodes_at tree value) k ≡ stack_at (nodes_at tree 0) k

-- the tree after some more names and some more nodes of weight 0
pub record IsGrown (before after : PlainTree) : Type 0 where
  pub longer : length before.nodes ≤ length after.nodes
  pub kept : (k : ℕ) → k < length before.nodes → row_at after.nodes k ≡ row_at before.nodes k
  pub weights : aggregate_of after.nodes ≡ aggregate_of before.nodes
  pub total : total_of after.nodes ≡ total_of before.nodes
  pub more_names : length before.names ≤ length after.names
  pub kept_names : (k : ℕ) → k < length before.names → name_at after.names k ≡ name_at before.names k

-- the same by each value
pub record AreGrown (before after : TreeState) : Type 0 where
  pub width : after.width ≡ before.width
  pub count : length after.values ≡ length before.values
  pub each : (value : ℕ) → value < length before.values → IsGrown (plain_at before value) (plain_at after value)

-- the tree after some more names
pub record HasMoreNames (before after : TreeState) : Type 0 where
  pub grown : AreGrown before after
  pub values : after.values ≡ before.values

-- the tree after some more nodes
pub record HasMoreNodes (before after : TreeState) : Type 0 where
  pub grown : AreGrown before after
  pub names : after.names ≡ before.names

-- a node's number is known by its parent's and its name's
abbrev pub same_key : ℕ × ℕ → ℕ × ℕ → Bool
same_key a b = nat_eq a.0 b.0 && nat_eq a.1 b.1

pub record IsChild (tree : PlainTree) (parent name child : ℕ) : Type 0 where
  pub parent_lt : parent < length tree.nodes
  pub name_lt : name < length tree.names
  pub child_lt : child < length tree.nodes
  pub stack : stack_at tree.nodes child ≡ stack_at tree.nodes parent ++ name_at tree.names name ∷ []

pub record IsIndex (look : ℕ × ℕ → Option ℕ) (tree : PlainTree) : Type 0 where
  pub right : (p n k : ℕ) → look (p, n) ≡ Some k → IsChild tree p n k
  pub complete : (p n k : ℕ) → IsChild tree p n k → look (p, n) ≡ Some k

-- a plan: the tree when it was made, and the tree that it will make of it
pub record PlanState : Type 0 where
  pub before : TreeState
  pub next : TreeState

-- a node that may be added: no node has its stack yet
pub record IsFresh (tree : PlainTree) (parent name : ℕ) (counts : Bool) : Type 0 where
  pub parent_lt : parent < length tree.nodes
  pub name_lt : name < length tree.names
  pub counted : counts ≡ not (has_name (name_at tree.names name) (stack_at tree.nodes parent))
  pub deep : length (stack_at tree.nodes parent) < most_frames
  pub fresh : (k : ℕ) → k < length tree.nodes
      → stack_at tree.nodes k ≡ stack_at tree.nodes parent ++ name_at tree.names name ∷ [] → ⊥

-- one node more, of weight 0 by each value
pub record IsAppended (before : TreeState) (parent name : ℕ) (after : TreeState) : Type 0 where
  pub width : after.width ≡ before.width
  pub count : length after.values ≡ length before.values
  pub names : after.names ≡ before.names
  pub each : (value : ℕ) → value < length before.values
      → nodes_at after value ≡ nodes_at before value ++ (record {
        stack = stack_at (nodes_at before 0) parent ++ name_at before.names name ∷ [];
        weight = 0;
      }) ∷ []
