-- A tree by each of its values.
use Rattle.std.proofs.lemmas.Grind.{common_steps}
use Rattle.std.proofs.Common.{◌≡◌, ℕ, zero, suc, ◌<◌, ◌≤◌, Bool, not, List, [], ◌∷◌, ◌++◌, length, map, get_or, refl}
use Rattle.std.proofs.Common.{sym, ap, ◌∙◌, subst, arith}
use Rattle.std.proofs.Math.ListN as list
use Rattle.std.proofs.lemmas.List.{length-map}
use Rattle.std.proofs.lemmas.Bool.{cases_eq}
use Rattle.profile_rows.specs.declared.weighted_stacks.WeightedStack.{WeightedStack}
use Rattle.profile_rows.specs.Rows.{has_name}
use Rattle.call_tree.specs.declared.node.Node.{Node}
use Rattle.call_tree.specs.State.{TreeState, PlainTree, AreStates, IsAppended, IsFresh, name_at, nodes_at}
use Rattle.call_tree.specs.State.{plain_at, stack_at}
use Rattle.call_tree.specs.Shape.{IsTree, link_of, node_rows}
use Rattle.call_tree.specs.Nodes.{AreAlike, AreTrees, AreTreesBut, nodes_of, tree_of, without_weight}
use Rattle.call_tree.proofs.Shapes.{IsState-tree, length-node_rows, row_at-node_rows}
use Rattle.call_tree.proofs.Appending.{IsTree-added, node_rows-added, node_rows-named}

pub nodes_at-tree : (names : List (List ℕ)) (all : List (List Node)) (value : ℕ)
    → nodes_at (tree_of names all) value ≡ node_rows names (nodes_of all value)
nodes_at-tree names all value = list.get_or-map (node_rows names) all value []

pub length-nodes_at : (names : List (List ℕ)) (all : List (List Node)) (value : ℕ)
    → length (nodes_at (tree_of names all) value) ≡ length (nodes_of all value)
length-nodes_at names all value = ap length (nodes_at-tree names all value)
    ∙ length-node_rows names (nodes_of all value)

-- the nodes as contracts see them, of a tree that is lent
pub seen : (names : List (List ℕ)) (all : List (List Node)) (tree : TreeState) (value : ℕ)
    → tree_of names all ≡ tree → node_rows names (nodes_of all value) ≡ nodes_at tree value
seen names all tree value e = sym (nodes_at-tree names all value) ∙ ap (λ t. nodes_at t value) e

pub seen_plain : (names : List (List ℕ)) (all : List (List Node)) (tree : TreeState) (value : ℕ)
    → tree_of names all ≡ tree
    → ◌≡◌ {A = PlainTree} (record { names = names; nodes = node_rows names (nodes_of all value) }) (plain_at tree value)
seen_plain names all tree value e = λ i. record { names = ap (λ t. t.names) e i; nodes = seen names all tree value e i }

pub length-seen : (names : List (List ℕ)) (all : List (List Node)) (tree : TreeState) (value : ℕ)
    → tree_of names all ≡ tree → length (nodes_of all value) ≡ length (nodes_at tree value)
length-seen names all tree value e = sym (length-node_rows names (nodes_of all value))
    ∙ ap length (seen names all tree value e)

pub value_lt : (names : List (List ℕ)) (all : List (List Node)) (tree : TreeState) (value : ℕ)
    → tree_of names all ≡ tree → value < tree.width → value < length all
value_lt names all tree value e lt = let width = ap (λ t. t.width) e in omega (arith, width, lt)

nothing_past : (rows : List (List WeightedStack)) (k : ℕ) → length rows ≤ k → get_or rows k [] ≡ []
nothing_past [] k past = refl
nothing_past (r ∷ rows) zero past = absurd (omega arith)
nothing_past (r ∷ rows) (suc k) past = nothing_past rows k (omega arith)

pub nodes_at-past : (tree : TreeState) (value : ℕ) → length tree.values ≤ value → nodes_at tree value ≡ []
nodes_at-past tree value past = nothing_past tree.values value past

-- ---- the same nodes by each value

links-without : (nodes : List Node) → map link_of (map without_weight nodes) ≡ map link_of nodes
links-without [] = refl
links-without (n ∷ nodes) = ap (λ rest. link_of n ∷ rest) (links-without nodes)

pub stack_at-alike : (names : List (List ℕ)) (nodes others : List Node) (k : ℕ)
    → map without_weight nodes ≡ map without_weight others
    → stack_at (node_rows names nodes) k ≡ stack_at (node_rows names others) k
stack_at-alike names nodes others k e = grind (arith, common_steps, row_at-node_rows, links-without)

pub length-alike : (nodes others : List Node)
    → map without_weight nodes ≡ map without_weight others → length nodes ≡ length others
length-alike nodes others e = sym (length-map nodes without_weight) ∙ ap length e ∙ length-map others without_weight

pub AreStates-trees : (names : List (List ℕ)) (all : List (List Node))
    → AreAlike all → AreTrees names all → AreStates (tree_of names all)
AreStates-trees names all alike trees =
    grind (arith, length-map, IsState-tree, nodes_at-tree, length-nodes_at, stack_at-alike, length-alike)

-- ---- a name more

map_same : (f g : List Node → List WeightedStack) (all : List (List Node))
    → ((value : ℕ) → value < length all → f (nodes_of all value) ≡ g (nodes_of all value)) → map f all ≡ map g all
map_same f g [] same = refl
map_same f g (nodes ∷ all) same =
    λ i. same 0 (omega arith) i ∷ map_same f g all (λ value lt. same (suc value) (omega arith)) i

pub values_named : (names : List (List ℕ)) (all : List (List Node)) (added : List ℕ)
    → AreTrees names all → ((i : ℕ) → i < length names → name_at names i ≡ added → ⊥)
    → map (node_rows (names ++ added ∷ [])) all ≡ map (node_rows names) all
values_named names all added trees absent = grind (arith, common_steps, node_rows-named, map_same)

-- ---- a node more

module _ (names : List (List ℕ))
    (all next : List (List Node)) (parent name : ℕ) (counts : Bool) (trees : AreTrees names all) (alike : AreAlike all)
    (fresh : IsFresh (plain_at (tree_of names all) 0) parent name counts) (count : length next ≡ length all)
    (pushed : (value : ℕ) → value < length all
    → nodes_of next value
    ≡ nodes_of all value ++ (record { parent = parent; name = name; counts = counts; own = 0 }) ∷ []) where
  stack_is : (value k : ℕ) → value < length all
      → stack_at (node_rows names (nodes_of all value)) k ≡ stack_at (nodes_at (tree_of names all) 0) k
  stack_is value k lt = stack_at-alike names (nodes_of all value) (nodes_of all 0) k (alike.each value lt)
      ∙ ap (λ rows. stack_at rows k) (sym (nodes_at-tree names all 0))

  size_is : (value : ℕ) → value < length all → length (nodes_of all value) ≡ length (nodes_at (tree_of names all) 0)
  size_is value lt = length-alike (nodes_of all value) (nodes_of all 0) (alike.each value lt)
      ∙ sym (length-nodes_at names all 0)

  parent_lt : (value : ℕ) → value < length all → parent < length (nodes_of all value)
  parent_lt value lt = omega (arith, size_is value lt, fresh.parent_lt)

  counted : (value : ℕ) → value < length all
      → counts ≡ not (has_name (name_at names name) (stack_at (node_rows names (nodes_of all value)) parent))
  counted value lt = fresh.counted
      ∙ ap (λ stack. not (has_name (name_at names name) stack)) (sym (stack_is value parent lt))

  deep : (value : ℕ) → value < length all → length (stack_at (node_rows names (nodes_of all value)) parent) < 65535
  deep value lt = let same = ap length (stack_is value parent lt) in omega (arith, same, fresh.deep)

  none : (value : ℕ) → value < length all → (k : ℕ) → k < length (nodes_of all value)
      → stack_at (node_rows names (nodes_of all value)) k
      ≡ stack_at (node_rows names (nodes_of all value)) parent ++ name_at names name ∷ [] → ⊥
  none value lt k k_lt e = fresh.fresh k (omega (arith, size_is value lt, k_lt))
      (sym (stack_is value k lt) ∙ e ∙ ap (λ stack. stack ++ name_at names name ∷ []) (stack_is value parent lt))

  pub AreTrees-appended : AreTrees names next
  AreTrees-appended value next_lt =
      let lt : value < length all = omega (arith, next_lt, count) in
      subst (IsTree names) (sym (pushed value lt))
      (IsTree-added names (nodes_of all value) parent name counts
      (trees value lt) (parent_lt value lt) fresh.name_lt (counted value lt) (deep value lt) (none value lt))

  pub IsAppended-trees : IsAppended (tree_of names all) parent name (tree_of names next)
  IsAppended-trees = grind (arith, length-map, node_rows-added, nodes_at-tree, stack_is, parent_lt, counted, deep, none)

-- ---- one weight more by one value

pub AreTreesBut-raised : (names : List (List ℕ)) (all now : List (List Node)) (value : ℕ)
    → AreTrees names all → length now ≡ length all
    → IsTree names (nodes_of now value)
    → ((other : ℕ) → (other ≡ value → ⊥) → nodes_of now other ≡ nodes_of all other) → AreTreesBut names value all now
AreTreesBut-raised names all now value trees count here others =
    record { trees = λ other lt. grind (arith, cases_eq); width = count; others = others }
