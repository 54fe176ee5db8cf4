-- The index from a parent and a name to a child, when a name or a node is added.
use Rattle.std.proofs.lemmas.Grind.{common_steps}
use Rattle.std.proofs.Common.{◌≡◌, ℕ, zero, suc, ◌<◌, Bool, true, false, cond, ◌&&◌, ◌||◌, nat_eq, List, [], ◌∷◌, ◌++◌}
use Rattle.std.proofs.Common.{length, Option, Some, None, refl, sym, ap, ◌∙◌, arith, inl, inr, subst, ⊎_elim, ◌⊎◌}
use Rattle.std.proofs.lemmas.List.{get_or_append_left, get_or_push, length_push, same_from_push}
use Rattle.std.proofs.lemmas.List.Sums.{sum_by_push}
use Rattle.std.proofs.lemmas.Bool.{cases_eq, eqb-true, eq-eqb}
use Rattle.std.specs.Prelude.{IfOk, IsOk, Ok, Err, Result, position}
use Rattle.std.specs.List.{list_any}
use Rattle.std.proofs.lemmas.List.Quantifiers.{position-Some}
use Rattle.profile_rows.specs.declared.weighted_stacks.WeightedStack.{WeightedStack}
use Rattle.profile_rows.specs.Names.{is_same_name}
use Rattle.profile_rows.proofs.RowLaws.{weight_where-push, aggregate_of-same}
use Rattle.profile_rows.proofs.SameNames.{same_from_is_same_name, is_same_name-self}
use Rattle.profile_rows.specs.Merging.{no_row, row_at}
use Rattle.call_tree.specs.State.{PlainTree, TreeState, IsState, IsChild, IsIndex, IsGrown, same_key, name_at}
use Rattle.call_tree.specs.State.{plain_at, stack_at}

pub IsIndex-look : (look other : ℕ × ℕ → Option ℕ) (tree : PlainTree)
    → ((key : ℕ × ℕ) → other key ≡ look key) → IsIndex look tree → IsIndex other tree
IsIndex-look look other tree same index = record {
  right = λ p n k e. index.right p n k (sym (same (p, n)) ∙ e);
  complete = λ p n k child. same (p, n) ∙ index.complete p n k child;
}

-- what a grower keeps true of its tree, which is the same
pub kept_by_same : (numbers : List (List ℕ)) (look : ℕ × ℕ → Option ℕ) (before now : TreeState) → now ≡ before
    → (numbers ≡ before.names) × IsIndex look (plain_at before 0)
    → (numbers ≡ now.names) × IsIndex look (plain_at now 0)
kept_by_same numbers look before now same kept =
    subst (λ (tree : TreeState). (numbers ≡ tree.names) × IsIndex look (plain_at tree 0)) (sym same) kept

how_many : Option ℕ → ℕ
how_many (Some _) = 1
how_many None = 0

some_is_no_none : (k : ℕ) → Some k ≡ None → ⊥
unfolding how_many
some_is_no_none k e = let different : 1 ≡ 0 = ap how_many e in omega (arith, different)

-- an empty index, of a tree without names
pub IsIndex-none : (look : ℕ × ℕ → Option ℕ) (tree : PlainTree)
    → ((key : ℕ × ℕ) → look key ≡ None) → tree.names ≡ [] → IsIndex look tree
IsIndex-none look tree none no_names = grind (arith, common_steps, some_is_no_none)

pub IsGrown-refl : (tree : PlainTree) → IsGrown tree tree
IsGrown-refl tree = grind (arith, common_steps)

-- ---- a name more

module _ (tree : PlainTree) (added : List ℕ) where
  abbrev pub named : PlainTree
  named = record tree { names = tree.names ++ added ∷ [] }

  kept_name : (n : ℕ) → n < length tree.names → name_at (tree.names ++ added ∷ []) n ≡ name_at tree.names n
  kept_name n lt = get_or_append_left tree.names (added ∷ []) [] n lt

  pub IsIndex-named : (look : ℕ × ℕ → Option ℕ)
      → IsState tree → ((k : ℕ) → k < length tree.names → name_at tree.names k ≡ added → ⊥)
      → IsIndex look tree → IsIndex look (record tree { names = tree.names ++ added ∷ [] })
  IsIndex-named look state absent index = record {
    right = λ p n k e. let old = index.right p n k e in record {
      parent_lt = old.parent_lt;
      name_lt = omega (arith, old.name_lt, length_push tree.names added);
      child_lt = old.child_lt;
      stack = old.stack ∙ ap (λ name. stack_at tree.nodes p ++ name ∷ []) (sym (kept_name n old.name_lt));
    };
    complete = λ p n k child. ⊎_elim
        (λ last. let name : name_at (tree.names ++ added ∷ []) n ≡ added =
        get_or_push tree.names added [] n (sym last) in
        let found = state.closed k (stack_at tree.nodes p) added child.child_lt
        (child.stack ∙ ap (λ name. stack_at tree.nodes p ++ name ∷ []) name) in
        absurd (absent found.number found.number_lt found.name_is))
        (λ ne. let lt : n < length tree.names = omega (arith, child.name_lt, length_push tree.names added) in
        index.complete p n k (record {
          parent_lt = child.parent_lt;
          name_lt = lt;
          child_lt = child.child_lt;
          stack = child.stack ∙ ap (λ name. stack_at tree.nodes p ++ name ∷ []) (kept_name n lt);
        }))
        (cases_eq n (length tree.names));
  }

-- ---- a node more

same_key_true : (p n q m : ℕ) → same_key (p, n) (q, m) ≡ true → (p ≡ q) × (n ≡ m)
same_key_true p n q m e = grind (arith, common_steps, eqb-true)

same_key_self : (p n : ℕ) → same_key (p, n) (p, n) ≡ true
same_key_self p n = ap (λ b. b && nat_eq n n) (eq-eqb p p refl) ∙ eq-eqb n n refl

longer_apart : (s : List (List ℕ)) (name : List ℕ) → s ≡ s ++ name ∷ [] → ⊥
longer_apart s name e = let sizes = ap length e in let push = length_push s name in omega (arith, sizes, push)

module _ (tree : PlainTree) (parent name : ℕ)
    (state : IsState tree) (parent_lt : parent < length tree.nodes) (name_lt : name < length tree.names)
    (absent : (k : ℕ) → k < length tree.nodes
    → stack_at tree.nodes k ≡ stack_at tree.nodes parent ++ name_at tree.names name ∷ [] → ⊥) where
  abbrev pub new_stack : List (List ℕ)
  new_stack = stack_at tree.nodes parent ++ name_at tree.names name ∷ []

  abbrev pub new_row : WeightedStack
  new_row = record { stack = stack_at tree.nodes parent ++ name_at tree.names name ∷ []; weight = 0 }

  abbrev grown : PlainTree
  grown = record tree { nodes = tree.nodes ++ new_row ∷ [] }

  kept_node : (k : ℕ) → k < length tree.nodes → row_at grown.nodes k ≡ row_at tree.nodes k
  kept_node k lt = get_or_append_left tree.nodes (new_row ∷ []) no_row k lt

  kept_stack : (k : ℕ) → k < length tree.nodes → stack_at grown.nodes k ≡ stack_at tree.nodes k
  kept_stack k lt = ap (λ row. row.stack) (kept_node k lt)

  last_stack : stack_at grown.nodes (length tree.nodes) ≡ new_stack
  last_stack = ap (λ row. row.stack) (get_or_push tree.nodes new_row no_row (length tree.nodes) refl)

  no_weight : (b : Bool) → let none : ℕ = 0 in cond b none none ≡ none
  no_weight true = refl
  no_weight false = refl

  pub IsGrown-added : IsGrown tree (record tree { nodes = tree.nodes ++ new_row ∷ [] })
  IsGrown-added =
      grind (arith, common_steps, length_push, sum_by_push, weight_where-push, aggregate_of-same, kept_node, no_weight)

  cases_of : (k : ℕ) → k < length grown.nodes → (k < length tree.nodes) ⊎ (k ≡ length tree.nodes)
  cases_of k lt =
      ⊎_elim (λ e. inr e) (λ ne. inl (omega (arith, length_push tree.nodes new_row))) (cases_eq k (length tree.nodes))

  -- a child in the grown tree: the new node under its parent, or a child that was there
  child_cases : (p n k : ℕ)
      → IsChild grown p n k → ((p ≡ parent) × (n ≡ name) × (k ≡ length tree.nodes)) ⊎ IsChild tree p n k
  child_cases p n k child = ⊎_elim
      (λ k_lt. ⊎_elim
      (λ p_lt. inr (record {
        parent_lt = p_lt;
        name_lt = child.name_lt;
        child_lt = k_lt;
        stack = sym (kept_stack k k_lt) ∙ child.stack ∙ ap (λ s. s ++ name_at tree.names n ∷ []) (kept_stack p p_lt);
      }))
      (λ p_last.
      let found = state.closed k new_stack (name_at tree.names n) k_lt
      (sym (kept_stack k k_lt)
      ∙ child.stack ∙ ap (λ s. s ++ name_at tree.names n ∷ []) (ap (stack_at grown.nodes) p_last ∙ last_stack)) in
      absurd (absent found.parent found.parent_lt found.parent_stack))
      (cases_of p child.parent_lt))
      (λ k_last. ⊎_elim
      (λ p_lt.
      let both = same_from_push
      (stack_at tree.nodes p) (stack_at tree.nodes parent) (name_at tree.names n) (name_at tree.names name)
      (ap (λ s. s ++ name_at tree.names n ∷ []) (sym (kept_stack p p_lt))
      ∙ sym child.stack ∙ ap (stack_at grown.nodes) k_last ∙ last_stack) in
      inl (
        state.own.apart p parent p_lt parent_lt both.0,
        state.own.unlike n name child.name_lt name_lt both.1,
        k_last,
      ))
      (λ p_last. absurd (longer_apart new_stack (name_at tree.names n)
      (sym last_stack ∙ ap (stack_at grown.nodes) (sym k_last)
      ∙ child.stack ∙ ap (λ s. s ++ name_at tree.names n ∷ []) (ap (stack_at grown.nodes) p_last ∙ last_stack))))
      (cases_of p child.parent_lt))
      (cases_of k child.child_lt)

  pub IsIndex-added : (look other : ℕ × ℕ → Option ℕ)
      → ((key : ℕ × ℕ) → other key ≡ cond (same_key (parent, name) key) (Some (length tree.nodes)) (look key))
      → IsIndex look tree → IsIndex other (record tree { nodes = tree.nodes ++ new_row ∷ [] })
  IsIndex-added look other puts index = record {
    right = λ p n k e. right p n k (same_key (parent, name) (p, n)) refl (sym (puts (p, n)) ∙ e);
    complete = λ p n k child. ⊎_elim
        (λ new. puts (p, n) ∙ ap (λ b. cond b (Some (length tree.nodes)) (look (p, n)))
        ((λ i. same_key (parent, name) (new.0 i, new.1 i)) ∙ same_key_self parent name) ∙ ap Some (sym new.2))
        (λ old. puts (p, n) ∙ kept p n k old (same_key (parent, name) (p, n)) refl)
        (child_cases p n k child);
  }
    where
      right : (p n k : ℕ) (b : Bool) → same_key (parent, name) (p, n) ≡ b
          → cond b (Some (length tree.nodes)) (look (p, n)) ≡ Some k → IsChild grown p n k
      right p n k true s e =
          let keys = same_key_true parent name p n s in
          let k_is : length tree.nodes ≡ k = cc in
          let size = length_push tree.nodes new_row in
          record {
            parent_lt = omega (arith, keys.0, parent_lt, size);
            name_lt = omega (arith, keys.1, name_lt);
            child_lt = omega (arith, size, k_is);
            stack = ap (stack_at grown.nodes) (sym k_is) ∙ last_stack ∙ ap (λ s. s ++ name_at tree.names name ∷ [])
                (sym (kept_stack parent parent_lt) ∙ ap (stack_at grown.nodes) keys.0)
                ∙ ap (λ m. stack_at grown.nodes p ++ name_at tree.names m ∷ []) keys.1;
          }
      right p n k false s e =
          let old = index.right p n k e in
          let size = length_push tree.nodes new_row in
          record {
            parent_lt = omega (arith, old.parent_lt, size);
            name_lt = old.name_lt;
            child_lt = omega (arith, old.child_lt, size);
            stack = kept_stack k old.child_lt
                ∙ old.stack ∙ ap (λ s. s ++ name_at tree.names n ∷ []) (sym (kept_stack p old.parent_lt));
          }

      kept : (p n k : ℕ) → IsChild tree p n k
          → (b : Bool) → same_key (parent, name) (p, n) ≡ b → cond b (Some (length tree.nodes)) (look (p, n)) ≡ Some k
      kept p n k old true s =
          let keys = same_key_true parent name p n s in
          absurd (absent k old.child_lt
          (old.stack ∙ (λ i. stack_at tree.nodes (sym keys.0 i) ++ name_at tree.names (sym keys.1 i) ∷ [])))
      kept p n k old false s = index.complete p n k old

-- ---- look-ups

pub from_ok : {T E : Type 0} (r : Result T E) (P : Type 0) → IsOk r → IfOk r (λ _. P) → P
from_ok (Ok x) P is h = h
from_ok (Err e) P is h = cc

pub if_ok_more : {T E : Type 0} (r : Result T E) (P Q : T → Type 0) → ((x : T) → P x → Q x) → IfOk r P → IfOk r Q
if_ok_more (Ok x) P Q f h = f x h
if_ok_more (Err e) P Q f h = tt

pub not_named : (names : List (List ℕ)) (name : List ℕ)
    → ((k : ℕ) → k < length names → name_at names k ≡ name → ⊥) → list_any (is_same_name name) names ≡ false
not_named [] name h = refl
not_named (x ∷ names) name h =
    elim (is_same_name name x) as (λ b. is_same_name name x ≡ b → (b || list_any (is_same_name name) names) ≡ false) [
      | true ↦ λ e. absurd (h 0 (omega arith) (sym (same_from_is_same_name name x e)))
      | false ↦ λ e. not_named names name (λ k lt f. h (suc k) (omega arith) f)
    ] refl

pub named_at : (names : List (List ℕ)) (name : List ℕ) (k : ℕ)
    → position (is_same_name name) names ≡ Some k → (k < length names) × (name_at names k ≡ name)
named_at names name k e = let found = position-Some
    (is_same_name name) names k [] e in (found.0, sym (same_from_is_same_name name (name_at names k) found.1))

pub unnamed : (names : List (List ℕ)) (name : List ℕ)
    → list_any (is_same_name name) names ≡ false → (k : ℕ) → k < length names → name_at names k ≡ name → ⊥
unnamed [] name e k lt f = omega arith
unnamed (x ∷ names) name e zero lt f = grind (arith, common_steps, is_same_name-self)
unnamed (x ∷ names) name e (suc k) lt f = unnamed names name (rest (is_same_name name x) e) k (omega arith) f
  where
    rest : (b : Bool) → (b || list_any (is_same_name name) names) ≡ false → list_any (is_same_name name) names ≡ false
    rest true h = cc
    rest false h = h
