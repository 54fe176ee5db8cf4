-- What a layout keeps from row to row.
use Rattle.std.proofs.lemmas.Grind.{common_steps}
use Rattle.std.proofs.Common.{ℕ, ◌≡◌, ◌<◌, ◌≤◌, ◌+◌, ◌-◌, List, [], ◌∷◌, ◌++◌, length, take, get_or, ap, ◌∙◌, arith}
use Rattle.std.proofs.Common.{zero, suc, add-one, replicate, inl, inr}
use Rattle.std.proofs.lemmas.List.{append_assoc, length-append, length-take-le, length-replicate, take_all}
use Rattle.std.proofs.lemmas.List.Sums.{common_prefix_len-le}
use Rattle.std.proofs.lemmas.Bool.{cases_lt}
use Rattle.std.specs.Ordering.{eq_by_cmp}
use Rattle.profile_rows.specs.declared.weighted_stacks.WeightedStack.{WeightedStack}
use Rattle.profile_rows.specs.Names.{name_cmp}
use Rattle.profile_rows.specs.Rows.{total_of}
use Rattle.profile_rows.specs.Aggregate.{IsAscending}
use Rattle.profile_rows.proofs.RowLaws.{weight_where-le-total}
use Rattle.call_tree.specs.State.{stack_at}
use Rattle.flame_report.specs.Sharing.{known_at, held_weight, AreHeld}
use Rattle.flame_report.proofs.PathOrder as order
use Rattle.flame_report.proofs.PathOrder.{begins}
use Rattle.flame_report.proofs.RowSums.{in_order, held_weight-new, weight_where-more, weight_where-next}

pub known-le : (rows : List WeightedStack) (n : ℕ)
    → IsAscending rows → n < length rows → known_at rows n ≤ length (stack_at rows n)
known-le rows zero up h = omega arith
known-le rows (suc n) up h =
    omega (arith, order.shared_less _ (stack_at rows (suc n)) (in_order rows n (suc n) up (omega arith) h))

pub known-le-held : (held : List ℕ) (rows : List WeightedStack) (n : ℕ)
    → AreHeld held rows n → known_at rows n ≤ length held
known-le-held held rows zero h = omega arith
known-le-held held rows (suc n) h =
    omega (arith, h.0, (common_prefix_len-le (eq_by_cmp name_cmp) (stack_at rows n) (stack_at rows (suc n))).0)

pub held-kept : (held : List ℕ) (rows : List WeightedStack) (n e : ℕ)
    → AreHeld held rows n → e < known_at rows n → get_or held e 0 ≡ held_weight rows n (take e (stack_at rows n))
held-kept held rows zero e is h = absurd (omega arith)
held-kept held rows (suc n) e is h =
    is.1 e (omega (arith, known-le-held held rows (suc n) is, is.0))
    ∙ ap (held_weight rows (suc n)) (order.take_shared e (stack_at rows n) (stack_at rows (suc n)) (omega arith))

-- the weight above a row's new paths, where the row isn't the first
pub held_above : (held : List ℕ) (rows : List WeightedStack) (n : ℕ) → IsAscending rows → n < length rows → AreHeld
    held rows n → 0 < known_at rows n → get_or held (known_at rows n - 1) 0 ≡ held_weight rows n (stack_at rows n)
held_above held rows n up h is some = held-kept held rows n (known_at rows n - 1) is (omega arith)
    ∙ held_weight-new rows n (known_at rows n - 1) up h (omega arith)

-- one more row, which is a part of none of its shorter paths
held_next : (rows : List WeightedStack) (n e : ℕ) (d : WeightedStack) → n < length rows → e < length (stack_at rows n)
    → held_weight rows (suc n) (take e (stack_at rows n)) ≡ held_weight rows n (take e (stack_at rows n))
held_next rows n e d h less =
    let apart = order.not_prefix_longer (stack_at rows n) (take e (stack_at rows n))
    (omega (arith, length-take-le e (stack_at rows n) (omega arith))) in
    rw (← add-one) (grind (arith, weight_where-next (λ s. begins s (take e (stack_at rows n))) rows n d h))

held_own : (rows : List WeightedStack) (n e : ℕ) (d : WeightedStack) → n < length rows → length (stack_at rows n) ≤ e
    → held_weight rows (suc n) (take e (stack_at rows n))
    ≡ held_weight rows n (stack_at rows n) + (get_or rows n d).weight
held_own rows n e d h own = rw (take_all e (stack_at rows n) own, ← add-one)
    (weight_where-more (λ s. begins s (stack_at rows n)) rows n d h (order.prefix_itself (stack_at rows n)))

-- the row's own path comes last
at_own : (held : List ℕ) (known depth e above last : ℕ) → known ≤ length held → known ≤ depth → e ≡ depth
    → get_or (take known held ++ (replicate (depth - known) above ++ last ∷ [])) e 0 ≡ last
at_own held known depth e above last fits less own = grind (arith, common_steps)

-- what is held of the paths that are shared stays, each new path has what lies above it, and the row's own its weight
pub held_more : (held items : List ℕ) (rows : List WeightedStack) (n above : ℕ) (d : WeightedStack)
    → IsAscending rows → n < length rows → AreHeld held rows n → above ≡ held_weight rows n (stack_at rows n)
    → items ≡ (take (known_at rows n) held ++ replicate (length (stack_at rows n) - known_at rows n) above)
    ++ (above + (get_or rows n d).weight) ∷ []
    → AreHeld items rows (n + 1)
held_more held items rows n above d up h is a are =
    let less = known-le rows n up h in
    let fits = known-le-held held rows n is in
    rw (add-one, are, append_assoc) (
      grind (arith, length-append, length-replicate, length-take-le),
      λ e deep. elim (cases_lt e (known_at rows n)) [
        | inl old ↦ grind (arith, common_steps, held-kept held rows n e is old, held_next rows n e d h)
        | inr new ↦ elim (cases_lt e (length (stack_at rows n))) [
          | inl inner ↦ grind (arith, common_steps, held_weight-new rows n e up h, held_next rows n e d h inner)
          | inr own ↦
              let sum : above + (get_or rows n d).weight ≡ held_weight rows (suc n) (take e (stack_at rows n)) =
              omega (arith, a, held_own rows n e d h own) in
              at_own held (known_at rows n) (length (stack_at rows n)) e above _ fits less (omega arith) ∙ sum
        ]
      ],
    )

pub held_weight-le : (rows : List WeightedStack) (n : ℕ)
    → n < length rows → held_weight rows n (stack_at rows n) ≤ total_of (take n rows)
held_weight-le rows n h = weight_where-le-total (λ s. begins s (stack_at rows n)) (take n rows)
