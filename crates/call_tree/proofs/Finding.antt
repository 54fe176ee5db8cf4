-- The walk over all nodes that follows one stack from the root.
use Rattle.std.proofs.lemmas.Grind.{common_steps}
use Rattle.std.proofs.Common.{◌≡◌, ℕ, zero, suc, ◌+◌, ◌<◌, ◌≤◌, true, false, cond, List, [], ◌∷◌, ◌++◌, length, take}
use Rattle.std.proofs.Common.{get_or, refl, sym, ap, ◌∙◌, arith, ⊎_elim}
use Rattle.std.proofs.lemmas.List.{take_more, same_from_push}
use Rattle.std.proofs.lemmas.List.Sums.{sum_by-cons}
use Rattle.std.proofs.lemmas.Bool.{cases_eq}
use Rattle.profile_rows.specs.declared.weighted_stacks.WeightedStack.{WeightedStack}
use Rattle.profile_rows.specs.Rows.{is_same_stack, weight_of, weight_if}
use Rattle.profile_rows.proofs.RowLaws.{same_from_is_same_stack, is_same_stack-self}
use Rattle.profile_rows.specs.Merging.{row_at}
use Rattle.call_tree.specs.declared.node.Node.{Node}
use Rattle.call_tree.specs.State.{name_at, stack_at}
use Rattle.call_tree.specs.Shape.{node_rows, at, IsTree}
use Rattle.call_tree.proofs.Shapes.{length-node_rows, stack_at-child, stack_at-root}

weight_if_other : (stack : List (List ℕ)) (row : WeightedStack)
    → (row.stack ≡ stack → ⊥) → weight_if (is_same_stack stack) row ≡ 0
weight_if_other stack row ne =
    elim (is_same_stack stack row.stack) as (λ b. is_same_stack stack row.stack ≡ b → cond b row.weight 0 ≡ 0) [
      | true ↦ λ e. absurd (ne (sym (same_from_is_same_stack stack row.stack e)))
      | false ↦ λ e. refl
    ] refl

pub weight_of-none : (rows : List WeightedStack) (stack : List (List ℕ))
    → ((j : ℕ) → j < length rows → stack_at rows j ≡ stack → ⊥) → weight_of rows stack ≡ 0
weight_of-none [] stack none = refl
weight_of-none (row ∷ rows) stack none =
    let rest = weight_of-none rows stack (λ j lt e. none (suc j) (omega arith) e) in
    let here = weight_if_other stack row (none 0 (omega arith)) in
    omega (arith, sum_by-cons (weight_if (is_same_stack stack)) row rows, rest, here)

pub weight_of-at : (rows : List WeightedStack) (stack : List (List ℕ)) (k : ℕ)
    → k < length rows → stack_at rows k ≡ stack
    → ((j : ℕ) → j < length rows → stack_at rows j ≡ stack → j ≡ k) → weight_of rows stack ≡ (row_at rows k).weight
weight_of-at [] stack k lt e only = absurd (omega arith)
weight_of-at (row ∷ rows) stack zero lt e only =
    let rest = weight_of-none rows stack (λ j h f. let no : suc j ≡ 0 = only (suc j) (omega arith) f in omega arith) in
    let here : weight_if (is_same_stack stack) row ≡ row.weight =
    ap (λ b. cond b row.weight 0) (ap (is_same_stack stack) e ∙ is_same_stack-self stack) in
    omega (arith, sum_by-cons (weight_if (is_same_stack stack)) row rows, rest, here)
weight_of-at (row ∷ rows) stack (suc k) lt e only =
    let rest = weight_of-at rows stack k
    (omega arith) e (λ j h f. let yes : suc j ≡ suc k = only (suc j) (omega arith) f in omega arith) in
    let here = weight_if_other stack row (λ f. let no : 0 ≡ suc k = only 0 (omega arith) f in omega arith) in
    omega (arith, sum_by-cons (weight_if (is_same_stack stack)) row rows, rest, here)

-- of the nodes below an index, the one at a slot has the longest front of the stack
pub record IsFound
    (names : List (List ℕ)) (nodes : List Node) (stack : List (List ℕ)) (index slot depth : ℕ) : Type 0 where
  pub slot_lt : slot < index
  pub within : slot < length nodes
  pub deep : depth ≤ length stack
  pub here : stack_at (node_rows names nodes) slot ≡ take depth stack
  pub longest : (j d : ℕ) → j < index → d ≤ length stack → stack_at (node_rows names nodes) j ≡ take d stack → d ≤ depth

front_length : (n m : ℕ) (stack : List (List ℕ))
    → n ≤ length stack → m ≤ length stack → take n stack ≡ take m stack → n ≡ m
front_length zero zero stack hn hm e = refl
front_length zero (suc m) [] hn hm e = absurd (omega arith)
front_length zero (suc m) (x ∷ xs) hn hm e = cc
front_length (suc n) zero [] hn hm e = absurd (omega arith)
front_length (suc n) zero (x ∷ xs) hn hm e = cc
front_length (suc n) (suc m) [] hn hm e = absurd (omega arith)
front_length (suc n) (suc m) (x ∷ xs) hn hm e =
    grind (arith, common_steps, front_length n m xs (omega arith) (omega arith))

pub IsFound-start : (names : List (List ℕ)) (nodes : List Node) (stack : List (List ℕ))
    → IsTree names nodes → IsFound names nodes stack 1 0 0
IsFound-start names nodes stack tree = record {
  slot_lt = omega arith;
  within = tree.rooted;
  deep = omega arith;
  here = stack_at-root names nodes;
  longest = λ j d lt le e.
      let zero_j : j ≡ 0 = omega arith in
      let root : take d stack ≡ take 0 stack = sym e
      ∙ ap (stack_at (node_rows names nodes)) zero_j ∙ stack_at-root names nodes in
      let same = front_length d 0 stack le (omega arith) root in omega (arith, same);
}

module _ (names : List (List ℕ))
    (nodes : List Node) (stack : List (List ℕ)) (index slot depth : ℕ) (tree : IsTree names nodes)
    (found : IsFound names nodes stack index slot depth) (pos : 0 < index) (lt : index < length nodes) where
  child : stack_at (node_rows names nodes) index
      ≡ stack_at (node_rows names nodes) (at nodes index).parent ++ name_at names (at nodes index).name ∷ []
  child = stack_at-child names nodes index pos lt (tree.links index pos lt).0

  pub IsFound-matched : depth < length stack
      → (at nodes index).parent ≡ slot → name_at names (at nodes index).name ≡ get_or stack depth []
      → IsFound names nodes stack (index + 1) index (depth + 1)
  IsFound-matched more parent name =
      let here : stack_at (node_rows names nodes) index ≡ take (depth + 1) stack =
      child ∙ ap (λ p. stack_at (node_rows names nodes) p ++ name_at names (at nodes index).name ∷ []) parent
      ∙ ap (λ s. s ++ name_at names (at nodes index).name ∷ []) found.here
      ∙ ap (λ n. take depth stack ++ n ∷ []) name ∙ sym (take_more stack depth [] more) in
      record {
        slot_lt = omega arith;
        within = lt;
        deep = omega arith;
        here = here;
        longest = λ j d h le e. ⊎_elim
            (λ same. let d_is = front_length d (depth + 1) stack le
            (omega arith) (sym e ∙ ap (stack_at (node_rows names nodes)) same ∙ here) in omega (arith, d_is))
            (λ ne. let old = found.longest j d (omega arith) le e in omega (arith, old))
            (cases_eq j index);
      }

  pub IsFound-passed : ((at nodes index).parent ≡ slot
      → depth < length stack → name_at names (at nodes index).name ≡ get_or stack depth [] → ⊥)
      → IsFound names nodes stack (index + 1) slot depth
  IsFound-passed other = record {
    slot_lt = let p = found.slot_lt in omega arith;
    within = found.within;
    deep = found.deep;
    here = found.here;
    longest = λ j d h le e. ⊎_elim
        (λ same. at_index d le (ap (stack_at (node_rows names nodes)) (sym same) ∙ e))
        (λ ne. found.longest j d (omega arith) le e)
        (cases_eq j index);
  }
    where
      at_index : (d : ℕ) → d ≤ length stack → stack_at (node_rows names nodes) index ≡ take d stack → d ≤ depth
      at_index zero le e = omega arith
      at_index (suc d) le e =
          let next : suc d ≡ d + 1 = omega arith in
          let more : take (d + 1) stack ≡ take d stack ++ get_or stack d [] ∷ [] = take_more stack d [] (omega arith) in
          let both = same_from_push (stack_at (node_rows names nodes) (at nodes index).parent)
          (take d stack) (name_at names (at nodes index).name) (get_or stack d [])
          (sym child ∙ e ∙ ap (λ n. take n stack) next ∙ more) in
          let shorter = found.longest (at nodes index).parent d (tree.links index pos lt).0 (omega arith) both.0 in
          ⊎_elim
          (λ same. absurd (other
          (tree.own.apart (at nodes index).parent slot
          (omega (arith, (tree.links index pos lt).0, length-node_rows names nodes))
          (omega (arith, found.within, length-node_rows names nodes))
          (both.0 ∙ ap (λ n. take n stack) same ∙ sym found.here))
          (omega arith)
          (both.1 ∙ ap (λ n. get_or stack n []) same)))
          (λ ne. omega (arith, shorter))
          (cases_eq d depth)
