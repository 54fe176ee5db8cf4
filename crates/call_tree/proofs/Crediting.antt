-- One weight more at one node's row.
use Rattle.std.proofs.lemmas.Grind.{common_steps}
use Rattle.std.proofs.Common.{◌≡◌, ℕ, ◌+◌, ◌<◌, Bool, true, false, cond, List, [], ◌∷◌, length, sym, ap, ◌∙◌}
use Rattle.std.proofs.Common.{arith}
use Rattle.std.proofs.lemmas.List.{get_or-set_same, get_or-set_other, length-set}
use Rattle.std.proofs.lemmas.List.Sums.{sum_by-set}
use Rattle.std.proofs.lemmas.Bool.{cases_eq}
use Rattle.profile_rows.specs.declared.weighted_stacks.WeightedStack.{WeightedStack}
use Rattle.profile_rows.specs.Rows.{is_same_stack, total_of, weight_of, weight_where}
use Rattle.profile_rows.specs.Aggregate.{with_row, aggregate_of}
use Rattle.profile_rows.proofs.RowLaws.{weight_where-set, weight_where-one, aggregate_of-more}
use Rattle.profile_rows.specs.Merging.{with_added_at}
use Rattle.call_tree.specs.State.{stack_at}

pub length-credited : (rows : List WeightedStack) (k w : ℕ) → length (with_added_at rows k w) ≡ length rows
length-credited rows k w = length-set rows k _

pub stack_at-credited : (rows : List WeightedStack) (k w j : ℕ)
    → k < length rows → stack_at (with_added_at rows k w) j ≡ stack_at rows j
stack_at-credited rows k w j lt = grind (arith, common_steps, get_or-set_same, get_or-set_other, cases_eq)

more_if : (b : Bool) (s a w : ℕ) (t : ℕ) → t + cond b a 0 ≡ s + cond b (a + w) 0 → t ≡ s + cond b w 0
more_if true s a w t e = omega arith
more_if false s a w t e = omega arith

pub weight_where-credited : (test : List (List ℕ) → Bool) (rows : List WeightedStack) (k w : ℕ) → k < length rows
    → weight_where test (with_added_at rows k w) ≡ weight_where test rows + cond (test (stack_at rows k)) w 0
weight_where-credited test rows k w lt = grind (arith, common_steps, weight_where-set, more_if)

pub total_of-credited : (rows : List WeightedStack) (k w : ℕ)
    → k < length rows → total_of (with_added_at rows k w) ≡ total_of rows + w
total_of-credited rows k w lt = grind (arith, common_steps, sum_by-set)

pub aggregate_of-credited : (rows : List WeightedStack) (k w : ℕ) → k < length rows
    → aggregate_of (with_added_at rows k w)
    ≡ with_row (aggregate_of rows) (record { stack = stack_at rows k; weight = w })
aggregate_of-credited rows k w lt =
    aggregate_of-more rows ((record { stack = stack_at rows k; weight = w }) ∷ []) (with_added_at rows k w)
    (λ s. weight_where-credited (is_same_stack s) rows k w lt ∙ ap (λ x. weight_of rows s + x)
    (sym (weight_where-one (is_same_stack s) (record { stack = stack_at rows k; weight = w }))))
