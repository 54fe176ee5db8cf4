-- The walk that makes room for one stack, and the loop that makes room for all rows.
use Rattle.std.proofs.lemmas.Grind.{common_steps}
use Rattle.std.proofs.Common.{rules, ◌≡◌, ℕ, suc, ◌+◌, ◌<◌, Bool, true, false, ◌||◌, nat_eq, List, [], ◌∷◌, ◌++◌}
use Rattle.std.proofs.Common.{length, take}
use Rattle.std.proofs.Common.{get_or, refl, sym, ap, ◌∙◌, arith}
use Rattle.std.specs.Prelude.{if◌then◌else◌}
use Rattle.std.specs.List.{list_any}
use Rattle.std.proofs.lemmas.List.{take_more, get_or_append_left, get_or_push, length_push}
use Rattle.std.proofs.lemmas.List.Folds.{list_any-append}
use Rattle.std.proofs.lemmas.Bool.{cases_eq, eqb-true, eq-eqb}
use mathlib.Core.Bool.{or-false}
use Rattle.profile_rows.specs.declared.weighted_stacks.WeightedStack.{WeightedStack}
use Rattle.profile_rows.specs.Merging.{row_at}
use Rattle.profile_rows.specs.Names.{is_same_name}
use Rattle.profile_rows.specs.Rows.{has_name}
use Rattle.profile_rows.proofs.SameNames.{same_from_is_same_name, is_same_name-self}
use Rattle.call_tree.specs.State.{PlainTree, TreeState, AreGrown, IsState, IsGrown, name_at, plain_at, stack_at}
use Rattle.call_tree.specs.Plans.{AreFirstSlots, IsSlot}
use Rattle.call_tree.specs.Walks.{has_name_numbered, IsOnPath}
use Rattle.call_tree.proofs.Trees.{nodes_at-past}

pub same_bool : (a b : Bool) → (a ≡ true → b ≡ true) → (b ≡ true → a ≡ true) → a ≡ b
same_bool true b f g = sym (f refl)
same_bool false true f g = g refl
same_bool false false f g = refl

-- has_name of a stack that goes on by one name
pub has_name-next : (name : List ℕ) (stack : List (List ℕ)) (last : List ℕ)
    → has_name name (stack ++ last ∷ []) ≡ (has_name name stack || is_same_name name last)
has_name-next name stack last = list_any-append (is_same_name name) stack (last ∷ [])
    ∙ ap (λ b. has_name name stack || b) (or-false (is_same_name name last))

-- equal numbers are equal names
has_name_numbered-own : (names : List (List ℕ)) (n : ℕ) (numbers : List ℕ)
    → n < length names → ((j : ℕ) → j < length numbers → get_or numbers j 0 < length names)
    → ((i j : ℕ) → i < length names → j < length names → name_at names i ≡ name_at names j → i ≡ j)
    → has_name_numbered names (name_at names n) numbers ≡ list_any (nat_eq n) numbers
has_name_numbered-own names n [] lt below unlike = refl
has_name_numbered-own names n (m ∷ numbers) lt below unlike =
    let m_lt = below 0 (omega arith) in
    let here : is_same_name (name_at names n) (name_at names m) ≡ nat_eq n m = same_bool _ _
    (λ e. eq-eqb n m (unlike n m lt m_lt (same_from_is_same_name _ _ e)))
    (λ e. ap (is_same_name (name_at names n)) (ap (name_at names) (sym (eqb-true n m e)))
    ∙ is_same_name-self (name_at names n)) in
    let rest = has_name_numbered-own names n numbers lt (λ j h. below (suc j) (omega arith)) unlike in
    λ i. here i || rest i

has_name_numbered-grown : (names more : List (List ℕ)) (name : List ℕ) (numbers : List ℕ)
    → ((j : ℕ) → j < length numbers → get_or numbers j 0 < length names)
    → ((k : ℕ) → k < length names → name_at more k ≡ name_at names k)
    → has_name_numbered more name numbers ≡ has_name_numbered names name numbers
has_name_numbered-grown names more name [] below kept = refl
has_name_numbered-grown names more name (m ∷ numbers) below kept =
    let here = ap (is_same_name name) (kept m (below 0 (omega arith))) in
    let rest = has_name_numbered-grown names more name numbers (λ j h. below (suc j) (omega arith)) kept in
    λ i. here i || rest i

module _ (tree named : PlainTree) (seen : List ℕ) (frames : List (List ℕ)) (i slot number : ℕ) (lt : i < length frames)
    (path : IsOnPath tree seen frames i slot) (interned : IsGrown tree named) (nodes : named.nodes ≡ tree.nodes)
    (number_lt : number < length named.names)
    (number_is : name_at named.names number ≡ get_or frames i []) (state : IsState named) where
  below_named : (j : ℕ) → j < length seen → get_or seen j 0 < length named.names
  below_named j h = let b = path.below j h in let m = interned.more_names in omega (arith, b, m)

  pub stack_now : stack_at named.nodes slot ≡ take i frames
  stack_now = ap (λ ns. stack_at ns slot) nodes ∙ path.here

  seen_now : (name : List ℕ) → has_name_numbered named.names name seen ≡ has_name name (take i frames)
  seen_now name = has_name_numbered-grown tree.names named.names name seen path.below interned.kept_names
      ∙ path.seen_is name

  pub there_is : list_any (nat_eq number) seen ≡ has_name (name_at named.names number) (stack_at named.nodes slot)
  there_is = sym (has_name_numbered-own named.names number seen number_lt below_named state.own.unlike)
      ∙ seen_now (name_at named.names number)
      ∙ ap (has_name (name_at named.names number)) (sym stack_now)

  pub parent_lt : slot < length named.nodes
  parent_lt = let p = path.slot_lt in let n = ap length nodes in omega (arith, p, n)

  last_frame : (name : List ℕ)
      → has_name name (take (i + 1) frames) ≡ (has_name name (take i frames) || is_same_name name (get_or frames i []))
  last_frame name = ap (has_name name) (take_more frames i [] lt)
      ∙ has_name-next name (take i frames) (get_or frames i [])

  absorbed : (a b : Bool) → (b ≡ true → a ≡ true) → a ≡ (a || b)
  absorbed true b f = refl
  absorbed false true f = f refl
  absorbed false false f = refl

  after_seen : (there : Bool) → there ≡ list_any (nat_eq number) seen → (name : List ℕ)
      → has_name_numbered named.names name (if there then seen else seen ++ number ∷ [])
      ≡ has_name name (take (i + 1) frames)
  after_seen true e name = search (rules, same_from_is_same_name, stack_now, seen_now, there_is, last_frame, absorbed)
  after_seen false e name = grind (arith, common_steps, list_any-append, or-false, seen_now, last_frame)

  after_below : (there : Bool) (j : ℕ) → j < length (if there then seen else seen ++ number ∷ [])
      → get_or (if there then seen else seen ++ number ∷ []) j 0 < length named.names
  after_below true j h = below_named j h
  after_below false j h =
      grind (arith, common_steps, get_or_append_left, get_or_push, length_push, cases_eq, below_named)

  pub IsOnPath-step : (after : PlainTree) (there : Bool) (next : List ℕ) (child : ℕ)
      → there ≡ list_any (nat_eq number) seen → next ≡ (if there then seen else seen ++ number ∷ [])
      → after.names ≡ named.names → child < length after.nodes
      → stack_at after.nodes child ≡ stack_at named.nodes slot ++ name_at named.names number ∷ []
      → IsOnPath after next frames (i + 1) child
  IsOnPath-step after there next child there_e next_e names child_lt child_stack =
      grind (arith, common_steps, take_more, stack_now, after_seen, after_below)

-- ---- the rows so far, in a tree that grew

IsSlot-grown : (before after : TreeState) (frames : List (List ℕ)) (slot : ℕ)
    → AreGrown before after → IsSlot (plain_at before 0) frames slot → IsSlot (plain_at after 0) frames slot
IsSlot-grown before after frames slot grown is = grind (arith, common_steps, nodes_at-past)

pub AreFirstSlots-step : (before after : TreeState) (rows : List WeightedStack) (slots : List ℕ) (i slot : ℕ)
    → AreGrown before after → AreFirstSlots (plain_at before 0) rows slots i
    → IsSlot (plain_at after 0) (row_at rows i).stack slot
    → AreFirstSlots (plain_at after 0) rows (slots ++ slot ∷ []) (i + 1)
AreFirstSlots-step before after rows slots i slot grown are is =
    grind (arith, common_steps, get_or_append_left, get_or_push, length_push, cases_eq, IsSlot-grown)
