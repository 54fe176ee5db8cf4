-- The nodes with their weights of each value.
use Rattle.std.specs.Prelude.{ℕ, ◌≡◌, ◌<◌, ◌≤◌, List, [], ◌∷◌, ◌++◌, length, map, slice_index_or, slice_set}
use Rattle.profile_rows.specs.Rows.{total_of}
use Rattle.profile_rows.specs.Values.{value_of}
use Rattle.call_tree.specs.declared.node.Link.{Link}
use Rattle.call_tree.specs.declared.node.Node.{Node}
use Rattle.call_tree.specs.State.{PlainTree, TreeState, nodes_at}
use Rattle.call_tree.specs.Shape.{IsTree, at, node_rows}

-- a node with another weight
abbrev pub with_weight : Node → ℕ → Node
with_weight node weight = record node { own = weight }

-- a node but for its weight
abbrev pub without_weight : Node → Node
without_weight node = with_weight node 0

-- the node that stands there and weighs so much
abbrev pub linked : Link → ℕ → Node
linked link weight = record { parent = link.parent; name = link.name; counts = link.counts; own = weight }

-- the nodes that stand there with the weights of a table, and with none past its end
abbrev pub weighed : List Link → List ℕ → List Node
weighed [] table = []
weighed (link ∷ links) [] = linked link 0 ∷ weighed links []
weighed (link ∷ links) (weight ∷ table) = linked link weight ∷ weighed links table

-- of the nodes by each value, those by this value
abbrev pub nodes_of : List (List Node) → ℕ → List Node
nodes_of all value = slice_index_or all value []

-- tables of weights for so many nodes: each is as long at least, and has no weights for more nodes
pub record AreTables (size : ℕ) (tables : List (List ℕ)) : Type 0 where
  pub long : (k : ℕ) → k < length tables → size ≤ length (slice_index_or tables k [])
  pub empty : (k node : ℕ) → size ≤ node
      → slice_index_or (slice_index_or tables k []) node 0 ≡ 0

-- tables of weights for so many nodes still, which give the nodes the weights that they had
pub record AreSameTables (size : ℕ) (before now : List (List ℕ)) : Type 0 where
  pub count : length now ≡ length before
  pub same : (links : List Link) → map (weighed links) now ≡ map (weighed links) before
  pub kept : AreTables size now

-- by each value the nodes are the same but for their weights
pub record AreAlike (all : List (List Node)) : Type 0 where
  pub some : 0 < length all
  pub each : (value : ℕ) → value < length all
      → map without_weight (nodes_of all value) ≡ map without_weight (nodes_of all 0)

-- what a tree is to contracts
abbrev pub tree_of : List (List ℕ) → List (List Node) → TreeState
tree_of names all = record { width = length all; names = names; values = map (node_rows names) all }

-- the same by one value
abbrev pub plain_of : List (List ℕ) → List (List Node) → ℕ → PlainTree
plain_of names all value = record { names = names; nodes = node_rows names (nodes_of all value) }

-- by each value the nodes are a tree
abbrev pub AreTrees : List (List ℕ) → List (List Node) → Type 0
AreTrees names all = (value : ℕ) → value < length all → IsTree names (nodes_of all value)

-- by one value a node weighs so much, and nothing else changed
pub record IsReweighed (before : List (List Node)) (value slot weight : ℕ) (now : List (List Node)) : Type 0 where
  pub width : length now ≡ length before
  pub here : nodes_of now value
      ≡ slice_set (nodes_of before value) slot (with_weight (at (nodes_of before value) slot) weight)
  pub others : (other : ℕ) → (other ≡ value → ⊥) → nodes_of now other ≡ nodes_of before other

-- one node more by each value, of weight 0
pub record HasNodeMore (before : List (List Node)) (link : Link) (now : List (List Node)) : Type 0 where
  pub width : length now ≡ length before
  pub each : (value : ℕ) → value < length before → nodes_of now value ≡ nodes_of before value ++ linked link 0 ∷ []

-- the nodes are trees, and by all values but one they are as they were
pub record AreTreesBut (names : List (List ℕ)) (value : ℕ) (before now : List (List Node)) : Type 0 where
  pub trees : AreTrees names now
  pub width : length now ≡ length before
  pub others : (other : ℕ) → (other ≡ value → ⊥) → nodes_of now other ≡ nodes_of before other

-- the weight of all nodes together by each value
pub record HasTotal (tree : TreeState) (total : List ℕ) : Type 0 where
  pub width : length total ≡ tree.width
  pub each : (value : ℕ) → value_of value total ≡ total_of (nodes_at tree value)
