-- Rows in the order of their stacks, put together one after the other.
use Rattle.std.proofs.lemmas.Grind.{common_steps}
use Rattle.std.proofs.Common.{rules, ◌≡◌, ℕ, suc, ◌+◌, ◌<◌, Bool, true, false, cond, List, [], ◌∷◌, ◌++◌, length}
use Rattle.std.proofs.Common.{get_or}
use Rattle.std.proofs.Common.{refl, sym, ap, ◌∙◌, subst, arith}
use Rattle.std.specs.Prelude.{All, IsSorted}
use Rattle.std.specs.List.{AllPairs}
use Rattle.std.proofs.lemmas.List.Kept.{AllPairs-cons}
use Rattle.std.specs.declared.cmp.Ordering.{Ordering}
use Rattle.std.specs.declared.cmp.Ordering.TheVariants.{Less, Equal, Greater}
use Rattle.std.specs.Ordering.{is_lt, ordering_reverse}
use Rattle.std.proofs.lemmas.Bool.{cases_eq}
use Rattle.std.proofs.lemmas.List.Elements.{All-push}
use Rattle.std.proofs.lemmas.List.Sorted.{ranks_by, sorted_far}
use Rattle.std.proofs.lemmas.List.Sums.{sum_by-cons}
use Rattle.std.proofs.lemmas.List.{get_or_default}
use Rattle.profile_rows.specs.declared.weighted_stacks.WeightedStack.{WeightedStack}
use Rattle.profile_rows.specs.Aggregate.{AreWeighty, IsAscending}
use Rattle.profile_rows.specs.Merging.{AddsRow, AreSumsUpTo, AreUpTo, by_stack, no_row, row_at}
use Rattle.profile_rows.specs.Rows.{is_same_stack, stack_cmp, total_of, weight_if, weight_of}
use Rattle.profile_rows.proofs.RowLaws.{stack_cmp_apart, stack_cmp_total}

abbrev lower : WeightedStack → WeightedStack → Bool
lower row other = is_lt (by_stack row other)

-- ---- a row after the last

strictly : (o p : Ordering) → p ≡ ordering_reverse o → is_lt o ≡ false → (o ≡ Equal → ⊥) → p ≡ Less
strictly Less p e low apart = cc
strictly Equal p e low apart = absurd (apart refl)
strictly Greater p e low apart = e

abbrev pub IsNew : List (List ℕ) → List WeightedStack → Type 0
IsNew stack rows = (at : ℕ) → at + 1 ≡ length rows → (row_at rows at).stack ≡ stack → ⊥

-- a stack that is after none of the rows, and not that of the last, is before none of them
before_new : (stack : List (List ℕ)) (rows : List WeightedStack)
    → IsAscending rows → AreUpTo stack rows → IsNew stack rows
    → (k : ℕ) → k < length rows → stack_cmp (row_at rows k).stack stack ≡ Less
before_new stack rows up reached new k lt = search (rules, cases_eq, stack_cmp_apart, stack_cmp_total, strictly)

pairs-push : {X : Type 0} (R : X → X → Type 0) (xs : List X) (y : X)
    → AllPairs R xs → All (λ x. R x y) xs → AllPairs R (xs ++ y ∷ [])
pairs-push R [] y up all = λ i j d lt short. absurd (omega (arith, lt, short))
pairs-push R (x ∷ xs) y up all =
    AllPairs-cons R x (xs ++ y ∷ [])
    (All-push (R x) xs y (λ k d lt. up 0 (suc k) d (omega arith) (omega (arith, lt))) (all 0 x (omega arith)))
    (pairs-push R xs y (λ i j d lt short. up (suc i) (suc j) d (omega (arith, lt)) (omega (arith, short)))
    (λ k d lt. all (suc k) d (omega (arith, lt))))

pub IsAscending-push : (rows all : List WeightedStack) (row : WeightedStack)
    → all ≡ rows ++ row ∷ [] → IsAscending rows → AreUpTo row.stack rows → IsNew row.stack rows → IsAscending all
IsAscending-push rows all row is up reached new =
    subst IsAscending (sym is)
    (pairs-push (λ (r after : WeightedStack). stack_cmp r.stack after.stack ≡ Less) rows row up (λ k d lt.
    ap (λ (r : WeightedStack). stack_cmp r.stack row.stack) (get_or_default rows k d no_row lt)
    ∙ before_new row.stack rows up reached new k lt))

pub AreWeighty-push : (rows all : List WeightedStack) (row : WeightedStack)
    → all ≡ rows ++ row ∷ [] → AreWeighty rows → 0 < row.weight → AreWeighty all
AreWeighty-push rows all row is weighty some =
    subst AreWeighty (sym is) (All-push (λ (row : WeightedStack). 0 < row.weight) rows row weighty some)

itself : (stack : List (List ℕ)) → is_lt (stack_cmp stack stack) ≡ false
itself stack = grind (arith, common_steps, stack_cmp_total)

pub AreUpTo-push : (rows all : List WeightedStack) (row : WeightedStack)
    → all ≡ rows ++ row ∷ [] → AreUpTo row.stack rows → AreUpTo row.stack all
AreUpTo-push rows all row is reached = subst (AreUpTo row.stack) (sym is)
    (All-push (λ (r : WeightedStack). is_lt (stack_cmp row.stack r.stack) ≡ false) rows row reached (itself row.stack))

-- ---- the loop

-- the rows so far are put together, and these are left
pub record IsPuttingTogether (all sums left : List WeightedStack) : Type 0 where
  pub ascending : IsAscending sums
  pub weighty : AreWeighty sums
  pub weights : (stack : List (List ℕ)) → weight_of sums stack + weight_of left stack ≡ weight_of all stack
  pub total : total_of sums + total_of left ≡ total_of all
  pub sorted : IsSorted by_stack left
  pub reached : All (λ (row : WeightedStack). AreUpTo row.stack sums) left

-- the rows after the first are in order, and none of their stacks comes before its
rest_sorted : (row : WeightedStack) (rest : List WeightedStack)
    → IsSorted by_stack (row ∷ rest) → IsSorted by_stack rest
rest_sorted row rest sorted = λ k d low lt.
    let next : suc k + 1 ≡ suc (k + 1) = omega arith in
    subst (λ m. is_lt (by_stack (get_or (row ∷ rest) m d) (get_or rest k d)) ≡ false) next
    (sorted (suc k) d (omega arith) (omega arith))

after : (row : WeightedStack) (rest : List WeightedStack)
    → IsSorted by_stack (row ∷ rest) → All (λ (next : WeightedStack). lower next row ≡ false) rest
after row rest sorted = λ k d lt. sorted_far lower (ranks_by stack_cmp_total (λ (row : WeightedStack). row.stack))
    (row ∷ rest) sorted 0 (suc k) d (omega arith) (omega arith)

module _ (all sums new left rest : List WeightedStack)
    (row : WeightedStack) (so_far : IsPuttingTogether all sums left) (is : left ≡ row ∷ rest) where
  sorted_left : IsSorted by_stack (row ∷ rest)
  sorted_left = subst (IsSorted by_stack) is so_far.sorted

  pub reached_first : AreUpTo row.stack sums
  reached_first = subst (All (λ (r : WeightedStack). AreUpTo r.stack sums)) is so_far.reached 0 no_row (omega arith)

  pub IsPuttingTogether-row : AreSumsUpTo row.stack new → AddsRow sums new row → IsPuttingTogether all new rest
  IsPuttingTogether-row are adds = record {
    ascending = are.ascending;
    weighty = are.weighty;
    weights = λ stack.
        let here : weight_of left stack ≡ weight_if (is_same_stack stack) row + weight_of rest stack =
        ap (λ rs. weight_of rs stack) is ∙ sum_by-cons (weight_if (is_same_stack stack)) row rest in
        omega (arith, here, adds.weights stack, so_far.weights stack);
    total =
        let here : total_of left ≡ row.weight + total_of rest = ap total_of is
        ∙ sum_by-cons (λ (r : WeightedStack). r.weight) row rest in
        omega (arith, here, adds.total, so_far.total);
    sorted = rest_sorted row rest sorted_left;
    reached = λ k d lt i e short.
        (ranks_by stack_cmp_total (λ (row : WeightedStack). row.stack)).chain (get_or rest k d) row (get_or new i e)
        (after row rest sorted_left k d lt) (are.up_to i e short);
  }

  pub IsPuttingTogether-weightless : row.weight ≡ 0 → new ≡ sums → IsPuttingTogether all new rest
  IsPuttingTogether-weightless none same = subst (λ rows. IsPuttingTogether all rows rest) (sym same) (record {
    ascending = so_far.ascending;
    weighty = so_far.weighty;
    weights = λ stack.
        let here : weight_of left stack ≡ weight_if (is_same_stack stack) row + weight_of rest stack =
        ap (λ rs. weight_of rs stack) is ∙ sum_by-cons (weight_if (is_same_stack stack)) row rest in
        let nothing = no_weight (is_same_stack stack row.stack) row.weight none in
        omega (arith, here, nothing, so_far.weights stack);
    total =
        let here : total_of left ≡ row.weight + total_of rest = ap total_of is
        ∙ sum_by-cons (λ (r : WeightedStack). r.weight) row rest in
        omega (arith, here, none, so_far.total);
    sorted = rest_sorted row rest sorted_left;
    reached =
        λ k d lt. subst (All (λ (r : WeightedStack). AreUpTo r.stack sums)) is so_far.reached (suc k) d (omega arith);
  })
    where
      no_weight : (b : Bool) (w : ℕ) → w ≡ 0 → cond b w 0 ≡ 0
      no_weight true w e = e
      no_weight false w e = refl
