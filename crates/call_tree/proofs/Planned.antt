-- The rows of a plan credited one after the other.
use Rattle.std.proofs.lemmas.Grind.{common_steps}
use Rattle.std.proofs.Common.{◌≡◌, ℕ, ◌+◌, ◌<◌, ◌^◌, List, [], ◌∷◌, ◌++◌, length, take, Option, refl, sym, ap, ◌∙◌}
use Rattle.std.proofs.Common.{arith}
use Rattle.std.proofs.lemmas.List.{get_or-map, length-map, take_more}
use Rattle.std.proofs.lemmas.List.Sums.{sum_by_more, sum_by_more_le}
use Rattle.profile_rows.specs.declared.weighted_stacks.WeightedStack.{WeightedStack}
use Rattle.profile_rows.specs.Rows.{total_of}
use Rattle.profile_rows.specs.Aggregate.{Weighted, with_row, with_rows, aggregate_of}
use Rattle.profile_rows.specs.Values.{Row, row_in, rows_at, value_of, weighing}
use Rattle.profile_rows.specs.Merging.{no_row, row_at, with_added_at}
use Rattle.call_tree.specs.State.{PlainTree, name_at, stack_at, IsIndex}
use Rattle.call_tree.specs.Plans.{AreSlots, HasSameNodes, IsCredited, slot_at}
use Rattle.call_tree.proofs.Crediting.{length-credited, stack_at-credited, total_of-credited, aggregate_of-credited}

pub with_rows-push : (m : Weighted) (rows : List WeightedStack) (row : WeightedStack)
    → with_rows m (rows ++ row ∷ []) ≡ with_row (with_rows m rows) row
with_rows-push m [] row = refl
with_rows-push m (first ∷ rows) row = with_rows-push (with_row m first) rows row

pub IsCredited-start : (tree : PlainTree) → IsCredited tree tree []
IsCredited-start tree = record { names = refl; size = refl; stacks = λ k. refl; total = omega arith; weights = refl }

-- ---- one row more

row_is : (value : ℕ) (rows : List Row) (k : ℕ)
    → k < length rows → row_at (rows_at value rows) k ≡ weighing value (row_in rows k)
row_is value rows k lt = get_or-map (weighing value) rows k (record { stack = []; weights = [] }) no_row lt

module _ (before now : PlainTree) (value : ℕ) (rows : List Row) (slots : List ℕ) (are : AreSlots before rows slots)
    (fits : total_of before.nodes + total_of (rows_at value rows) < 2 ^ 63) (i : ℕ) (lt : i < length rows)
    (done : IsCredited before now (take i (rows_at value rows)))
    (weight : ℕ) (weight_is : weight ≡ value_of value (row_in rows i).weights) where
  in_rows : i < length (rows_at value rows)
  in_rows = omega (arith, lt, length-map rows (weighing value))

  abbrev slot : ℕ
  slot = slot_at slots i

  here : row_at (rows_at value rows) i ≡ weighing value (row_in rows i)
  here = row_is value rows i lt

  row_stack : stack_at before.nodes slot ≡ (row_in rows i).stack
  row_stack = (are.each i lt).stack ∙ ap (λ (row : WeightedStack). row.stack) (row_is 0 rows i lt)

  pub credit_within : slot_at slots i < length now.nodes
  credit_within = omega (arith, (are.each i lt).within, done.size)

  pub credit_fits : total_of now.nodes + weight < 2 ^ 63
  credit_fits = grind (arith, common_steps, sum_by_more_le, in_rows, here)

  pub IsCredited-step : (next : PlainTree)
      → next.names ≡ now.names → next.nodes ≡ with_added_at now.nodes (slot_at slots i) weight
      → IsCredited before next (take (i + 1) (rows_at value rows))
  IsCredited-step next names nodes = record {
    names = names ∙ done.names;
    size = ap length nodes ∙ length-credited now.nodes slot weight ∙ done.size;
    stacks = λ k. ap (λ ns. stack_at ns k) nodes
        ∙ stack_at-credited now.nodes slot weight k credit_within ∙ done.stacks k;
    total =
        let new : total_of next.nodes ≡ total_of now.nodes + weight = ap total_of nodes
        ∙ total_of-credited now.nodes slot weight credit_within in
        let part = sum_by_more (λ (row : WeightedStack). row.weight) (rows_at value rows) i no_row in_rows in
        let weight_of_row : (row_at (rows_at value rows) i).weight ≡ weight = ap (λ row. row.weight) here
        ∙ sym weight_is in
        omega (arith, new, part, weight_of_row, done.total);
    weights =
        let row_now : (record { stack = stack_at now.nodes slot; weight = weight }) ≡ row_at (rows_at value rows) i =
        (λ j. record { stack = (done.stacks slot ∙ row_stack) j; weight = weight_is j }) ∙ sym here in
        ap aggregate_of nodes ∙ aggregate_of-credited now.nodes slot weight credit_within
        ∙ ap (λ m. with_row m (record { stack = stack_at now.nodes slot; weight = weight })) done.weights
        ∙ ap (with_row (with_rows (aggregate_of before.nodes) (take i (rows_at value rows)))) row_now
        ∙ sym
        (with_rows-push (aggregate_of before.nodes) (take i (rows_at value rows)) (row_at (rows_at value rows) i))
        ∙ ap (with_rows (aggregate_of before.nodes)) (sym (take_more (rows_at value rows) i no_row in_rows));
  }

-- the index speaks of names and stacks alone
pub IsIndex-credited : (look : ℕ × ℕ → Option ℕ) (before now : PlainTree)
    → IsIndex look before → HasSameNodes before now → IsIndex look now
IsIndex-credited look before now index done = record {
  right = λ p n k e. let old = index.right p n k e in record {
    parent_lt = omega (arith, old.parent_lt, done.size);
    name_lt = omega (arith, old.name_lt, ap length done.names);
    child_lt = omega (arith, old.child_lt, done.size);
    stack = done.stacks k ∙ old.stack ∙ ap (λ s. s ++ name_at before.names n ∷ []) (sym (done.stacks p))
        ∙ ap (λ names. stack_at now.nodes p ++ name_at names n ∷ []) (sym done.names);
  };
  complete = λ p n k child. index.complete p n k (record {
    parent_lt = omega (arith, child.parent_lt, done.size);
    name_lt = omega (arith, child.name_lt, ap length done.names);
    child_lt = omega (arith, child.child_lt, done.size);
    stack = sym (done.stacks k) ∙ child.stack ∙ ap (λ s. s ++ name_at now.names n ∷ []) (done.stacks p)
        ∙ ap (λ names. stack_at before.nodes p ++ name_at names n ∷ []) done.names;
  });
}
