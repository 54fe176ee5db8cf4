-- Sorted rows have the sums of those before, and what ascends is in its aggregate's form.
use Rattle.std.proofs.Common.{rules, ◌≡◌, IsPermutation, ap, ◌∙◌, subst}
use Rattle.std.proofs.lemmas.Result.{IfOk-weaker}
use Rattle.std.specs.Ordering.{is_lt}
use Rattle.std.proofs.lemmas.List.Sorted.{answers_always, ranks_by, sum_by-IsPermutation}
use Rattle.profile_rows.specs.declared.weighted_stacks.WeightedStack.{WeightedStack}
use Rattle.profile_rows.specs.Merging.{by_stack}
use Rattle.profile_rows.specs.Aggregate.{rows_of}
use Rattle.profile_rows.specs.Rows.{is_same_stack, stack_cmp, weight_if}
use Rattle.profile_rows.proofs.RowLaws.{aggregate_of-same, stack_cmp_total}
use Rattle.profile_rows.proofs.summing.aggregate_stacks.Goals as goal

pub put_together-requires-clause-sorted : goal.put_together-requires-clause-sorted
put_together-requires-clause-sorted c =
    c.in_ok-sort_by.ensures.sorted (λ (a : WeightedStack) (b : WeightedStack). is_lt (by_stack a b))
    (ranks_by stack_cmp_total (λ (row : WeightedStack). row.stack))
    (answers_always _ _ _ (λ f a r q k. let e : r ≡ stack_cmp a.0.now.stack a.1.0.now.stack =
    search rules in ap is_lt e))

pub returns : goal.returns
returns c =
    let rows = c.args.rows in
    let sorted = c.sort_by.new.self.items in
    let moved : IsPermutation rows sorted = subst (λ before. IsPermutation before sorted)
    c.into_rows-rows.ensures.rows c.sort_by.ensures.permutation in
    let same = aggregate_of-same sorted rows
    (λ stack. sum_by-IsPermutation (weight_if (is_same_stack stack)) rows sorted moved) in
    IfOk-weaker c.put_together.result _ _ (λ sums is. is ∙ ap rows_of same) c.put_together.ensures
