-- Rows of one stack put together.
use Rattle.std.proofs.lemmas.Grind.{common_steps}
use Rattle.std.proofs.Common.{◌≡◌, ℕ, ◌+◌, ◌^◌, ◌<◌, Bool, List, [], ◌∷◌, ◌++◌, length}
use Rattle.std.proofs.Common.{sym, ap, ◌∙◌, arith}
use Rattle.profile_rows.specs.declared.weighted_stacks.WeightedStack.{WeightedStack}
use Rattle.profile_rows.specs.Aggregate.{aggregate_of}
use Rattle.profile_rows.specs.Rows.{is_same_stack, total_of, weight_if, weight_of}
use Rattle.profile_rows.specs.Merging.{AddsRow, AreMergedSoFar, no_row, row_at, with_added_at}
use Rattle.profile_rows.proofs.RowLaws.{aggregate_of-same, weight_where-set, weight_where-push}
use Rattle.std.proofs.lemmas.List.Sums.{sum_by-set, sum_by_push}

added_if : (test : List (List ℕ) → Bool) (stack : List (List ℕ)) (a b : ℕ)
    → weight_if test (record { stack = stack; weight = a + b })
    ≡ weight_if test (record { stack = stack; weight = a }) + weight_if test (record { stack = stack; weight = b })
added_if test stack a b = grind (arith, common_steps)

-- adding to the weight of a row adds a row of its stack
pub AddsRow-added : (rows : List WeightedStack) (at weight : ℕ) (row : WeightedStack) → at < length rows
    → total_of rows + weight < 2 ^ 63 → row ≡ record { stack = (row_at rows at).stack; weight = weight }
    → AddsRow rows (with_added_at rows at weight) row
AddsRow-added rows at weight row lt fits is = grind (arith, common_steps, weight_where-set, sum_by-set, added_if)

-- a row more adds itself
pub AddsRow-push : (rows all : List WeightedStack) (row : WeightedStack)
    → all ≡ rows ++ row ∷ [] → total_of rows + row.weight < 2 ^ 63 → AddsRow rows all row
AddsRow-push rows all row is fits = grind (arith, common_steps, weight_where-push, sum_by_push)

-- ---- a loop that puts rows together

pub AreMergedSoFar-row : (rows all sums new : List WeightedStack) (row : WeightedStack)
    → AreMergedSoFar rows sums → AddsRow sums new row → all ≡ rows ++ row ∷ [] → AreMergedSoFar all new
AreMergedSoFar-row rows all sums new row so_far adds is = record {
  weights = λ stack. adds.weights stack ∙ ap (λ w. w + weight_if (is_same_stack stack) row) (so_far.weights stack)
      ∙ sym (weight_where-push (is_same_stack stack) rows row) ∙ ap (λ rs. weight_of rs stack) (sym is);
  total = adds.total ∙ ap (λ w. w + row.weight) so_far.total
      ∙ sym (sum_by_push (λ (r : WeightedStack). r.weight) rows row) ∙ ap total_of (sym is);
}

pub AreMergedSoFar-same : (rows sums : List WeightedStack)
    → AreMergedSoFar rows sums → aggregate_of sums ≡ aggregate_of rows
AreMergedSoFar-same rows sums so_far = aggregate_of-same sums rows so_far.weights
