-- The nodes of weight above 0 make the map of all nodes.
use Rattle.std.proofs.lemmas.Grind.{common_steps}
use Rattle.std.proofs.Common.{◌≡◌, ℕ, ◌+◌, ◌<◌, List, [], ◌∷◌, ◌++◌, length, filter}
use Rattle.std.proofs.Common.{take, refl, ap, ◌∙◌, arith}
use Rattle.std.proofs.lemmas.Bool.{lt-ltb, ltb-false}
use Rattle.std.proofs.lemmas.List.{append-nil, take_more}
use Rattle.std.proofs.lemmas.List.Elements.{filter-append}
use Rattle.std.proofs.lemmas.List.Sums.{sum_by-cons}
use Rattle.profile_rows.specs.declared.weighted_stacks.WeightedStack.{WeightedStack}
use Rattle.profile_rows.specs.Rows.{weight_of}
use Rattle.profile_rows.specs.Aggregate.{aggregate_of}
use Rattle.profile_rows.proofs.RowLaws.{aggregate_of-same}
use Rattle.profile_rows.specs.Merging.{row_at}
use Rattle.call_tree.specs.State.{stack_at, has_weight}

-- ---- the loop's step

module _ (nodes before next : List WeightedStack) (k weight : ℕ) (lt : k < length nodes)
    (weight_is : weight ≡ (row_at nodes k).weight) (done : before ≡ filter has_weight (take k nodes)) where
  more : filter has_weight (take (k + 1) nodes)
      ≡ filter has_weight (take k nodes) ++ filter has_weight (row_at nodes k ∷ [])
  more = ap (filter has_weight) (take_more nodes k (record { stack = []; weight = 0 }) lt)
      ∙ filter-append has_weight (take k nodes) (row_at nodes k ∷ [])

  pub weighted : 0 < weight → (stack : List (List ℕ))
      → stack ≡ stack_at nodes k → next ≡ before ++ (record { stack = stack; weight = weight }) ∷ []
      → next ≡ filter has_weight (take (k + 1) nodes)
  weighted some stack stack_is next_is = grind (arith, common_steps, lt-ltb, more)

  pub weightless : weight ≡ 0 → next ≡ before → next ≡ filter has_weight (take (k + 1) nodes)
  weightless none next_is = grind (arith, common_steps, append-nil, more)

-- ---- a filter that keeps what weighs something

weight_of-filter : (rows : List WeightedStack) (stack : List (List ℕ))
    → weight_of (filter has_weight rows) stack ≡ weight_of rows stack
weight_of-filter [] stack = refl
weight_of-filter (row ∷ rows) stack = grind (arith, common_steps, ltb-false, sum_by-cons, weight_of-filter rows stack)

pub aggregate_of-weighty : (nodes : List WeightedStack) → aggregate_of (filter has_weight nodes) ≡ aggregate_of nodes
aggregate_of-weighty nodes = aggregate_of-same (filter has_weight nodes) nodes (weight_of-filter nodes)
