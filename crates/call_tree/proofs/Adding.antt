-- The weights of a batch's rows, added by one value after the other.
use Rattle.std.proofs.lemmas.Grind.{common_steps}
use Rattle.std.proofs.Common.{◌≡◌, ℕ, ◌+◌, ◌<◌, ◌^◌, List, [], ◌∷◌, length, take, refl, sym, ap, ◌∙◌, subst, arith}
use Rattle.std.proofs.lemmas.List.{length-map, take_all}
use Rattle.profile_rows.specs.Values.{Row, row_in, rows_at, value_of, weighing}
use Rattle.profile_rows.specs.Merging.{with_added_at}
use Rattle.call_tree.specs.declared.node.Node.{Node}
use Rattle.profile_rows.specs.Rows.{total_of}
use Rattle.call_tree.specs.State.{PlainTree, TreeState, nodes_at, plain_at}
use Rattle.call_tree.specs.Shape.{node_rows}
use Rattle.call_tree.specs.Nodes.{AreTrees, AreTreesBut, nodes_of, plain_of, tree_of}
use Rattle.call_tree.specs.Plans.{AreCredited, AreSlots, IsCredited}
use Rattle.call_tree.proofs.Growing.{AreCredited-start, AreCredited-step}
use Rattle.call_tree.proofs.Trees.{nodes_at-tree, seen_plain}
use Rattle.call_tree.proofs.Shapes.{length-node_rows}
use Rattle.call_tree.proofs.Planned.{IsCredited-start, IsCredited-step, credit_within}

pub record AreAdded
    (names : List (List ℕ)) (before now : List (List Node)) (value : ℕ) (rows : List Row) (count : ℕ) : Type 0 where
  pub trees : AreTreesBut names value before now
  pub done : IsCredited (plain_of names before value) (plain_of names now value) (take count (rows_at value rows))

-- ---- the values so far

pub record AreAddedTo
    (names : List (List ℕ)) (before now : List (List Node)) (rows : List Row) (count : ℕ) : Type 0 where
  pub trees : AreTrees names now
  pub width : length now ≡ length before
  pub credited : AreCredited (tree_of names before) (tree_of names now) rows count

plain_is : (names : List (List ℕ)) (all : List (List Node)) (value : ℕ)
    → plain_of names all value ≡ plain_at (tree_of names all) value
plain_is names all value = seen_plain names all (tree_of names all) value refl

module _ (names : List (List ℕ)) (before now : List (List Node))
    (batch : List Row) (value : ℕ) (so_far : AreAddedTo names before now batch value) where
  -- this value's nodes are as they were
  left_is : nodes_at (tree_of names now) value ≡ nodes_at (tree_of names before) value
  left_is = so_far.credited.left value (omega arith)

  still : plain_at (tree_of names before) value ≡ plain_of names now value
  still = (λ i. record { names = names; nodes = sym left_is i }) ∙ sym (plain_is names now value)

  pub slots_now : (slots : List ℕ) → AreSlots (plain_at (tree_of names before) value) batch slots
      → AreSlots (plain_of names now value) batch slots
  slots_now slots are = subst (λ (tree : PlainTree). AreSlots tree batch slots) still are

  pub total_now : total_of (node_rows names (nodes_of now value)) ≡ total_of (nodes_at (tree_of names before) value)
  total_now = ap (λ (tree : PlainTree). total_of tree.nodes) (sym still)

  pub AreAddedTo-step : (next : List (List Node)) → AreTrees names next → length next ≡ length now
      → IsCredited (plain_of names now value) (plain_of names next value) (rows_at value batch)
      → ((other : ℕ) → (other ≡ value → ⊥) → nodes_of next other ≡ nodes_of now other)
      → AreAddedTo names before next batch (value + 1)
  AreAddedTo-step next trees width here others =
      grind (arith, AreCredited-step, nodes_at-tree, trees, width, others, trees, width, with_added_at, plain_is)

-- ---- one row of one value, at its node

module _ (names : List (List ℕ)) (before : List (List Node))
    (old : TreeState) (old_is : tree_of names before ≡ old) (rows : List Row) (slot weight : ℕ)
    (one : length rows ≡ 1) (slots : AreSlots (plain_at old 0) rows (slot ∷ []))
    (light : total_of (nodes_at old 0) + total_of (rows_at 0 rows) < 2 ^ 63)
    (weight_is : weight ≡ value_of 0 (row_in rows 0).weights) where
  abbrev tree : PlainTree
  tree = plain_of names before 0

  here_is : plain_at old 0 ≡ tree
  here_is = sym (seen_plain names before old 0 old_is)

  are : AreSlots tree rows (slot ∷ [])
  are = subst (λ (t : PlainTree). AreSlots t rows (slot ∷ [])) here_is slots

  fits : total_of tree.nodes + total_of (rows_at 0 rows) < 2 ^ 63
  fits = omega (arith, light, ap (λ (t : PlainTree). total_of t.nodes) here_is)

  first_lt : 0 < length rows
  first_lt = omega (arith, one)

  pub row_within : slot < length (nodes_of before 0)
  row_within = grind (arith, common_steps, length-node_rows, IsCredited-start, credit_within, are, fits, first_lt)

  pub AreCredited-row : (now : List (List Node)) → length now ≡ length before
      → node_rows names (nodes_of now 0) ≡ with_added_at (node_rows names (nodes_of before 0)) slot weight
      → ((other : ℕ) → (other ≡ 0 → ⊥) → nodes_of now other ≡ nodes_of before other)
      → AreCredited (tree_of names before) (tree_of names now) rows 1
  AreCredited-row now width here others =
      let first = IsCredited-step tree tree 0 rows
      (slot ∷ []) are fits 0 first_lt (IsCredited-start tree) weight weight_is (plain_of names now 0) refl here in
      let all : take 1 (rows_at 0 rows) ≡ rows_at 0 rows =
      take_all 1 (rows_at 0 rows) (omega (arith, one, length-map rows (weighing 0))) in
      let done = subst (IsCredited tree (plain_of names now 0)) all first in
      AreCredited-step (tree_of names before)
      (tree_of names before) (tree_of names now) rows 0 (AreCredited-start (tree_of names before) rows) width refl
      (subst
      (λ (t : PlainTree). IsCredited t (plain_at (tree_of names now) 0) (rows_at 0 rows)) (plain_is names before 0)
      (subst (λ (t : PlainTree). IsCredited tree t (rows_at 0 rows)) (plain_is names now 0) done))
      (λ other ne. nodes_at-tree names now other
      ∙ ap (node_rows names) (others other ne) ∙ sym (nodes_at-tree names before other))
