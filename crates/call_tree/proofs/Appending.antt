-- One more name, and one more node of weight 0.
use Rattle.std.proofs.lemmas.Grind.{common_steps}
use Rattle.std.proofs.Common.{◌≡◌, ℕ, suc, ◌+◌, ◌<◌, Bool, not, List, [], ◌∷◌, ◌++◌, length}
use Rattle.std.proofs.Common.{get_or, refl, sym, ap, ◌∙◌, subst, arith, inl, inr, ⊎_elim, ◌⊎◌}
use Rattle.std.proofs.Common.{length-append, ◌≤◌}
use Rattle.std.proofs.lemmas.List.{get_or_append_left, get_or_push, length_push}
use Rattle.std.proofs.lemmas.List.Sums.{sum_by_push}
use Rattle.std.proofs.lemmas.Bool.{cases_eq}
use Rattle.profile_rows.specs.declared.weighted_stacks.WeightedStack.{WeightedStack}
use Rattle.profile_rows.specs.Rows.{has_name, total_of}
use Rattle.call_tree.specs.declared.node.Node.{Node}
use Rattle.call_tree.specs.State.{HasOwnStacks, name_at, stack_at}
use Rattle.call_tree.specs.Shape.{Link, link_of, no_node, next_stack, stacks_from, node_rows, at}
use Rattle.call_tree.specs.Shape.{IsTree}
use Rattle.call_tree.proofs.Shapes.{node_rows-push, row_at-node_rows, length-node_rows, length-stacks_of}
use Rattle.call_tree.proofs.Shapes.{length-map_link, get_or-links}

-- ---- the root alone

pub IsTree-root : IsTree [] (no_node ∷ [])
IsTree-root = grind (arith, common_steps)

-- ---- a name

name_at-kept : (names : List (List ℕ)) (added : List ℕ) (n : ℕ)
    → n < length names → name_at (names ++ added ∷ []) n ≡ name_at names n
name_at-kept names added n lt = get_or_append_left names (added ∷ []) [] n lt

next_stack-kept : (names : List (List ℕ)) (added : List ℕ) (before : List (List (List ℕ))) (link : Link)
    → (0 < length before → link.name < length names)
    → next_stack (names ++ added ∷ []) before link ≡ next_stack names before link
next_stack-kept names added [] link h = refl
next_stack-kept names added (s ∷ ss) link h =
    ap (λ name. get_or (s ∷ ss) link.parent [] ++ name ∷ []) (name_at-kept names added link.name (h (omega arith)))

stacks_from-named : (names : List (List ℕ)) (added : List ℕ) (before : List (List (List ℕ))) (links : List Link)
    → ((j : ℕ) → 0 < length before + j → j < length links → (get_or links j (link_of no_node)).name < length names)
    → stacks_from (names ++ added ∷ []) before links ≡ stacks_from names before links
stacks_from-named names added before [] h = refl
stacks_from-named names added before (link ∷ links) h =
    ap (λ s. stacks_from (names ++ added ∷ []) (before ++ s ∷ []) links)
    (next_stack-kept names added before link (λ p. h 0 (omega arith) (omega arith)))
    ∙ stacks_from-named names added (before ++ next_stack names before link ∷ []) links
    (λ j p lt. h (suc j) (omega arith) (omega arith))

module _ (names : List (List ℕ)) (nodes : List Node) (added : List ℕ) (tree : IsTree names nodes)
    (absent : (i : ℕ) → i < length names → name_at names i ≡ added → ⊥) where
  pub node_rows-named : node_rows (names ++ added ∷ []) nodes ≡ node_rows names nodes
  node_rows-named = grind (arith, common_steps, length-map_link, get_or-links, stacks_from-named)

  name_kept : (k : ℕ)
      → 0 < k → k < length nodes → name_at (names ++ added ∷ []) (at nodes k).name ≡ name_at names (at nodes k).name
  name_kept k pos lt = name_at-kept names added (at nodes k).name (tree.links k pos lt).1

  cases_last : (i : ℕ) → i < length (names ++ added ∷ []) → (i < length names) ⊎ (i ≡ length names)
  cases_last i lt = ⊎_elim (λ e. inr e) (λ ne. inl (omega (arith, length_push names added))) (cases_eq i (length names))

  last_name : name_at (names ++ added ∷ []) (length names) ≡ added
  last_name = get_or_push names added [] (length names) refl

  unlike_named : (i j : ℕ) → i < length (names ++ added ∷ []) → j < length (names ++ added ∷ [])
      → name_at (names ++ added ∷ []) i ≡ name_at (names ++ added ∷ []) j → i ≡ j
  unlike_named i j hi hj e = grind (arith, common_steps, name_at-kept, cases_last, last_name)

  pub IsTree-named : IsTree (names ++ added ∷ []) nodes
  IsTree-named = grind (arith, length_push, node_rows-named, name_kept, unlike_named)

-- ---- a node

next_stack-below : (names : List (List ℕ)) (stacks : List (List (List ℕ))) (link : Link) → 0 < length stacks
    → next_stack names stacks link ≡ get_or stacks link.parent [] ++ name_at names link.name ∷ []
next_stack-below names [] link h = absurd (omega arith)
next_stack-below names (s ∷ ss) link h = refl

module _ (names : List (List ℕ)) (nodes : List Node) (parent name : ℕ) (counts : Bool) (tree : IsTree names nodes)
    (parent_lt : parent < length nodes) (name_lt : name < length names)
    (counted : counts ≡ not (has_name (name_at names name) (stack_at (node_rows names nodes) parent)))
    (deep : length (stack_at (node_rows names nodes) parent) < 65535)
    (fresh : (k : ℕ) → k < length nodes → stack_at (node_rows names nodes) k
    ≡ stack_at (node_rows names nodes) parent ++ name_at names name ∷ [] → ⊥) where
  abbrev pub added_node : Node
  added_node = record { parent = parent; name = name; counts = counts; own = 0 }

  abbrev pub added_row : WeightedStack
  added_row = record { stack = stack_at (node_rows names nodes) parent ++ name_at names name ∷ []; weight = 0 }

  abbrev all : List Node
  all = nodes ++ added_node ∷ []

  pub node_rows-added : node_rows names (nodes ++ added_node ∷ []) ≡ node_rows names nodes ++ added_row ∷ []
  node_rows-added = grind (arith, common_steps, node_rows-push, row_at-node_rows, length-stacks_of, next_stack-below)

  at_old : (k : ℕ) → k < length nodes → at all k ≡ at nodes k
  at_old k lt = get_or_append_left nodes (added_node ∷ []) no_node k lt

  at_last : at all (length nodes) ≡ added_node
  at_last = get_or_push nodes added_node no_node (length nodes) refl

  stack_old : (k : ℕ) → k < length nodes → stack_at (node_rows names all) k ≡ stack_at (node_rows names nodes) k
  stack_old k lt = grind (arith, common_steps, get_or_append_left, length-node_rows, node_rows-added)

  stack_last : stack_at (node_rows names all) (length nodes)
      ≡ stack_at (node_rows names nodes) parent ++ name_at names name ∷ []
  stack_last = grind (arith, common_steps, get_or_push, length-node_rows, node_rows-added)

  cases_of : (k : ℕ) → k < length all → (k < length nodes) ⊎ (k ≡ length nodes)
  cases_of k lt =
      ⊎_elim (λ e. inr e) (λ ne. inl (omega (arith, length_push nodes added_node))) (cases_eq k (length nodes))

  by_node : (P : ℕ → Type 0) → ((k : ℕ) → k < length nodes → P k) → P (length nodes) → (k : ℕ) → k < length all → P k
  by_node P old last k lt = ⊎_elim (λ h. old k h) (λ e. subst P (sym e) last) (cases_of k lt)

  total_kept : total_of (node_rows names all) ≡ total_of (node_rows names nodes)
  total_kept = ap total_of node_rows-added
      ∙ omega (arith, sum_by_push (λ (row : WeightedStack). row.weight) (node_rows names nodes) added_row)

  apart_old : (i j : ℕ) → i < length nodes → j < length nodes
      → stack_at (node_rows names nodes) i ≡ stack_at (node_rows names nodes) j → i ≡ j
  apart_old i j hi hj e =
      let size = length-node_rows names nodes in
      tree.own.apart i j (omega (arith, hi, size)) (omega (arith, hj, size)) e

  apart_added : (i j : ℕ)
      → i < length all → j < length all → stack_at (node_rows names all) i ≡ stack_at (node_rows names all) j → i ≡ j
  apart_added i j hi hj e =
      ⊎_elim
      (λ i_old.
      ⊎_elim
      (λ j_old. apart_old i j i_old j_old (sym (stack_old i i_old) ∙ e ∙ stack_old j j_old))
      (λ j_last. absurd (fresh i i_old
      (sym (stack_old i i_old) ∙ e ∙ ap (stack_at (node_rows names all)) j_last ∙ stack_last)))
      (cases_of j hj))
      (λ i_last.
      ⊎_elim
      (λ j_old. absurd (fresh j j_old
      (sym (stack_old j j_old) ∙ sym e ∙ ap (stack_at (node_rows names all)) i_last ∙ stack_last)))
      (λ j_last. i_last ∙ sym j_last)
      (cases_of j hj))
      (cases_of i hi)

  deep_added : (k : ℕ) → k < length all → length (stack_at (node_rows names all) k) ≤ 65535
  deep_added =
      by_node (λ k. length (stack_at (node_rows names all) k) ≤ 65535)
      (λ k lt.
      let old = tree.own.deep k (omega (arith, lt, length-node_rows names nodes)) in
      omega (arith, ap length (stack_old k lt), old))
      (omega (
        arith,
        ap length stack_last,
        deep,
        length-append (stack_at (node_rows names nodes) parent) (name_at names name ∷ []),
      ))

  own_added : HasOwnStacks (record { names = names; nodes = node_rows names all })
  own_added =
      let size = length-node_rows names all in
      record {
        apart = λ i j hi hj. apart_added i j (omega (arith, hi, size)) (omega (arith, hj, size));
        unlike = tree.own.unlike;
        deep = λ k lt. deep_added k (omega (arith, lt, size));
        fits = omega (arith, total_kept, tree.own.fits);
      }

  pub IsTree-added : IsTree names (nodes ++ added_node ∷ [])
  IsTree-added = grind (arith, length_push, at_old, at_last, stack_old, stack_last, by_node, own_added)
