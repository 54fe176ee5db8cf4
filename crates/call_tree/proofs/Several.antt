-- The rows of a tree by all values: those of each value are added, and weigh nothing by another.
use Rattle.std.proofs.lemmas.Grind.{common_steps}
use Rattle.std.proofs.Common.{◌≡◌, ℕ, ◌+◌, ◌<◌, ◌≤◌, true, false, ltb, List, [], ◌∷◌, ◌++◌, refl, sym, ap, ◌∙◌, subst}
use Rattle.std.proofs.Common.{arith, ⊎_elim}
use Rattle.std.specs.FinMap as finite
use Rattle.std.proofs.lemmas.List.{map-append}
use Rattle.std.proofs.lemmas.Bool.{cases_eq, ltb-true, ltb-false}
use Rattle.profile_rows.specs.declared.weighted_stacks.WeightedStack.{WeightedStack}
use Rattle.profile_rows.specs.Values.{BatchState, Row, value_of, weighing}
use Rattle.profile_rows.specs.Aggregate.{AreRowsOf, aggregate_of, aggregates_of, rows_of, with_row, with_rows}
use Rattle.profile_rows.proofs.AnswerLaws.{aggregate_of-rows_of}
use Rattle.profile_rows.proofs.RowLaws.{with_rows-append}
use Rattle.call_tree.specs.State.{AreStates, TreeState, nodes_at, weights_of}
use Rattle.call_tree.proofs.Trees.{nodes_at-past}

aggregates-push : (rows : List Row) (row : Row) (value : ℕ)
    → aggregates_of (rows ++ row ∷ []) value ≡ with_row (aggregates_of rows value) (weighing value row)
aggregates-push rows row value = grind (arith, common_steps, map-append, with_rows-append)

-- a batch to which some rows of a value were added, and others are left
pub record IsPushing (before now : BatchState) (value : ℕ) (all left : List WeightedStack) : Type 0 where
  pub width : now.width ≡ before.width
  pub here : with_rows (aggregates_of now.rows value) left ≡ with_rows (aggregates_of before.rows value) all
  pub others : (other : ℕ) → (other ≡ value → ⊥) → aggregates_of now.rows other ≡ aggregates_of before.rows other

pub IsPushing-step : (before now next : BatchState)
    (value : ℕ) (all left rest : List WeightedStack) (row : WeightedStack) (weights : List ℕ)
    → IsPushing before now value all left → left ≡ row ∷ rest
    → value_of value weights ≡ row.weight → ((other : ℕ) → (other ≡ value → ⊥) → value_of other weights ≡ 0)
    → next ≡ record { width = now.width; rows = now.rows ++ (record { stack = row.stack; weights = weights }) ∷ [] }
    → IsPushing before next value all rest
IsPushing-step before now next value all left rest row weights so_far left_is own none next_is =
    let added : Row = record { stack = row.stack; weights = weights } in
    subst (λ b. IsPushing before b value all rest) (sym next_is) (record {
      width = so_far.width;
      here = ap (λ m. with_rows m rest) (aggregates-push now.rows added value
          ∙ ap (λ n. with_row (aggregates_of now.rows value) (record { stack = row.stack; weight = n })) own)
          ∙ ap (with_rows (aggregates_of now.rows value)) (sym left_is) ∙ so_far.here;
      others = λ other apart. aggregates-push now.rows added other
          ∙ ap (λ n. with_row (aggregates_of now.rows other) (record { stack = row.stack; weight = n }))
          (none other apart) ∙ so_far.others other apart;
    })

-- ---- one value after the other

pub record ArePushed (tree : TreeState) (batch : BatchState) (count : ℕ) : Type 0 where
  pub width : batch.width ≡ tree.width
  pub done : (value : ℕ) → value < count → aggregates_of batch.rows value ≡ weights_of tree value
  pub left : (value : ℕ) → count ≤ value → aggregates_of batch.rows value ≡ finite.empty

pub ArePushed-step : (tree : TreeState) (batch next : BatchState) (count : ℕ) (rows : List WeightedStack)
    → ArePushed tree batch count
    → rows ≡ rows_of (weights_of tree count) → next.width ≡ batch.width
    → aggregates_of next.rows count ≡ with_rows (aggregates_of batch.rows count) rows
    → ((other : ℕ) → (other ≡ count → ⊥) → aggregates_of next.rows other ≡ aggregates_of batch.rows other)
    → ArePushed tree next (count + 1)
ArePushed-step tree batch next count rows so_far rows_is width here others = record {
  width = width ∙ so_far.width;
  done = λ value lt. ⊎_elim
      (λ e. subst (λ v. aggregates_of next.rows v ≡ weights_of tree v) (sym e)
      (here ∙ ap (λ m. with_rows m rows) (so_far.left count (omega arith))
      ∙ ap aggregate_of rows_is ∙ aggregate_of-rows_of (nodes_at tree count)))
      (λ ne. others value ne ∙ so_far.done value (omega (arith, lt, ne)))
      (cases_eq value count);
  left = λ value le. others value (λ e. omega (arith, le, e)) ∙ so_far.left value (omega (arith, le));
}

pub ArePushed-all : (tree : TreeState) (batch : BatchState) (count : ℕ) (rows : List Row)
    → AreStates tree → count ≡ tree.width → ArePushed tree batch count
    → AreRowsOf (aggregates_of batch.rows) rows → AreRowsOf (weights_of tree) rows
ArePushed-all tree batch count rows states all pushed are = record {
  ascending = are.ascending;
  weighty = are.weighty;
  each = λ value. are.each value ∙ same value;
}
  where
    same : (value : ℕ) → aggregates_of batch.rows value ≡ weights_of tree value
    same value =
        elim (ltb value count) as (λ b. ltb value count ≡ b → aggregates_of batch.rows value ≡ weights_of tree value) [
          | true ↦ λ e. pushed.done value (ltb-true value count e)
          | false ↦ λ e.
              let past = ltb-false value count e in
              let width = states.width in
              pushed.left value past
              ∙ sym (ap aggregate_of (nodes_at-past tree value (omega (arith, past, width, all))))
        ] refl
