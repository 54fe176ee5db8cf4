-- The weights of a tree's maps are those of the nodes that they stand for.
use Rattle.std.proofs.lemmas.Grind.{common_steps}
use Rattle.std.proofs.Common.{rules, ◌≡◌, ℕ, ◌+◌, ◌<◌, ◌≤◌, ◌^◌, true, false, ltb, List, [], ◌∷◌, length, refl, sym, ap}
use Rattle.std.proofs.Common.{◌∙◌}
use Rattle.std.proofs.Common.{arith}
use Rattle.std.proofs.lemmas.Bool.{ltb-true, ltb-false}
use Rattle.profile_rows.specs.Rows.{total_of}
use Rattle.profile_rows.specs.Aggregate.{weight_in}
use Rattle.profile_rows.specs.Values as values
use Rattle.profile_rows.specs.Values.{BatchState, value_of}
use Rattle.profile_rows.proofs.FourValues.{value_of-past}
use Rattle.profile_rows.proofs.EntryLaws.{weight_where-rows_of}
use Rattle.profile_rows.proofs.RowLaws.{weight_in-aggregate_of}
use Rattle.profile_rows.specs.Merging.{no_row, row_at}
use Rattle.call_tree.specs.State.{TreeState, AreGrown, AreStates, weights_of, total_in, nodes_at}
use Rattle.call_tree.specs.State.{stack_at}
use Rattle.call_tree.specs.Nodes.{HasTotal}
use Rattle.call_tree.specs.Plans.{AreCredited}
use Rattle.call_tree.proofs.Finding.{weight_of-at, weight_of-none}
use Rattle.call_tree.proofs.Trees.{nodes_at-past}

pub total_in-weights_of : (tree : TreeState) (value : ℕ)
    → total_in (weights_of tree value) ≡ total_of (nodes_at tree value)
total_in-weights_of tree value = weight_where-rows_of (λ stack. true) (nodes_at tree value)

module _ (tree : TreeState) (states : AreStates tree) where
  past : (value : ℕ) → tree.width ≤ value → length tree.values ≤ value
  past value le = let width = states.width in omega (arith, width, le)

  pub total_in-past : (value : ℕ) → tree.width ≤ value → total_in (weights_of tree value) ≡ 0
  total_in-past value le = total_in-weights_of tree value ∙ ap total_of (nodes_at-past tree value (past value le))

  pub total_in-fits : (value : ℕ) → total_in (weights_of tree value) < 2 ^ 63
  total_in-fits value = grind (arith, common_steps, ltb-true, ltb-false, total_in-weights_of, total_in-past)

  pub weight_in-past : (stack : List (List ℕ)) (value : ℕ)
      → tree.width ≤ value → weight_in (weights_of tree value) stack ≡ 0
  weight_in-past stack value le = search (rules, weight_in-aggregate_of, nodes_at-past, past)

  pub weight_in-found : (stack : List (List ℕ)) (value slot : ℕ)
      → value < tree.width → slot < length (nodes_at tree 0)
      → stack_at (nodes_at tree 0) slot ≡ stack
      → weight_in (weights_of tree value) stack ≡ (row_at (nodes_at tree value) slot).weight
  weight_in-found stack value slot lt within here =
      let rows = nodes_at tree value in
      let size = states.sizes value lt in
      let is : stack_at rows slot ≡ stack = states.stacks value slot lt ∙ here in
      weight_in-aggregate_of rows stack
      ∙ weight_of-at rows stack slot (omega (arith, size, within)) is
      (λ j j_lt e. (states.each value lt).own.apart j slot j_lt (omega (arith, size, within)) (e ∙ sym is))

  pub weight_in-nowhere : (stack : List (List ℕ))
      → ((k : ℕ) → k < length (nodes_at tree 0) → stack_at (nodes_at tree 0) k ≡ stack → ⊥)
      → (value : ℕ) → weight_in (weights_of tree value) stack ≡ 0
  weight_in-nowhere stack none value =
      elim (ltb value tree.width) as (λ b. ltb value tree.width ≡ b → weight_in (weights_of tree value) stack ≡ 0) [
        | true ↦ λ e.
            let lt = ltb-true value tree.width e in
            let size = states.sizes value lt in
            weight_in-aggregate_of (nodes_at tree value) stack
            ∙ weight_of-none (nodes_at tree value) stack
            (λ j j_lt f. none j (omega (arith, size, j_lt)) (sym (states.stacks value j lt) ∙ f))
        | false ↦ λ e. weight_in-past stack value (ltb-false value tree.width e)
      ] refl

-- ---- the total that a tree holds

pub total-grown : (before after : TreeState)
    → AreGrown before after → (value : ℕ) → total_of (nodes_at after value) ≡ total_of (nodes_at before value)
total-grown before after grown value = grind (arith, common_steps, ltb-true, ltb-false, nodes_at-past, past)

pub HasTotal-same : (before after : TreeState) (total : List ℕ) → HasTotal before total → after.width ≡ before.width
    → ((value : ℕ) → total_of (nodes_at after value) ≡ total_of (nodes_at before value)) → HasTotal after total
HasTotal-same before after total held width same = grind (arith, common_steps)

pub HasTotal-root : (tree : TreeState) (total : List ℕ) → length total ≡ tree.width → length tree.values ≡ tree.width
    → ((value : ℕ) → value_of value total ≡ 0)
    → ((value : ℕ) → value < tree.width → nodes_at tree value ≡ no_row ∷ []) → HasTotal tree total
HasTotal-root tree total width count zero root = grind (arith, common_steps, ltb-true, ltb-false, nodes_at-past)

pub HasTotal-credited : (before next : TreeState) (batch : BatchState) (total more sum : List ℕ)
    → HasTotal before total → values.AreTotals batch more
    → batch.width ≡ before.width → AreCredited before next batch.rows before.width → length sum ≡ length total
    → ((value : ℕ) → value_of value sum ≡ value_of value total + value_of value more) → HasTotal next sum
HasTotal-credited before next batch total more sum held added width credited size sums =
    grind (arith, common_steps, ltb-true, ltb-false, value_of-past, past)
