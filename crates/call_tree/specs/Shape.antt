-- The stacks of the nodes, and what a tree keeps true.
use Rattle.std.specs.Prelude.{ℕ, ◌≡◌, ◌<◌, false, not, List, [], ◌∷◌, ◌++◌, length, map, slice_index_or}
use Rattle.profile_rows.specs.declared.weighted_stacks.WeightedStack.{WeightedStack}
use Rattle.profile_rows.specs.Rows.{has_name}
use Rattle.call_tree.specs.declared.node.Node.{Node}
use Rattle.call_tree.specs.State.{HasOwnStacks, name_at, stack_at}

-- where a node stands in the tree: its parent and its name's number
pub record Link : Type 0 where
  pub parent : ℕ
  pub name : ℕ

abbrev pub link_of : Node → Link
link_of node = record { parent = node.parent; name = node.name }

abbrev pub no_node : Node
no_node = record { parent = 0; name = 0; counts = false; own = 0 }

-- the stack of the next node: none for the first, else its parent's and its name
abbrev pub next_stack : List (List ℕ) → List (List (List ℕ)) → Link → List (List ℕ)
next_stack names [] link = []
next_stack names (stack ∷ stacks) link =
    slice_index_or (stack ∷ stacks) link.parent [] ++ name_at names link.name ∷ []

abbrev pub stacks_from : List (List ℕ) → List (List (List ℕ)) → List Link → List (List (List ℕ))
stacks_from names before [] = before
stacks_from names before (link ∷ links) = stacks_from names (before ++ next_stack names before link ∷ []) links

abbrev pub stacks_of : List (List ℕ) → List Node → List (List (List ℕ))
stacks_of names nodes = stacks_from names [] (map link_of nodes)

abbrev pub rows_with : List (List (List ℕ)) → List Node → List WeightedStack
rows_with [] nodes = []
rows_with (stack ∷ stacks) [] = []
rows_with (stack ∷ stacks) (node ∷ nodes) = (record { stack = stack; weight = node.own }) ∷ rows_with stacks nodes

-- for each node its stack and its own weight
abbrev pub node_rows : List (List ℕ) → List Node → List WeightedStack
node_rows names nodes = rows_with (stacks_of names nodes) nodes

abbrev pub at : List Node → ℕ → Node
at nodes k = slice_index_or nodes k no_node

pub record IsTree (names : List (List ℕ)) (nodes : List Node) : Type 0 where
  pub rooted : 0 < length nodes
  pub root : (at nodes 0).counts ≡ false
  pub links : (k : ℕ) → 0 < k → k < length nodes
      → ((at nodes k).parent < k) × ((at nodes k).name < length names)
  pub counts : (k : ℕ) → 0 < k → k < length nodes
      → (at nodes k).counts
      ≡ not (has_name (name_at names (at nodes k).name) (stack_at (node_rows names nodes) (at nodes k).parent))
  pub own : HasOwnStacks (record { names = names; nodes = node_rows names nodes })
