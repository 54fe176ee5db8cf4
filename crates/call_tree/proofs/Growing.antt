-- A tree that grows, and is credited, by each of its values.
use Rattle.std.proofs.lemmas.Grind.{common_steps}
use Rattle.std.proofs.Common.{◌≡◌, ℕ, ◌+◌, ◌<◌, ◌≤◌, Bool, List, [], ◌∷◌, ◌++◌, length, refl}
use Rattle.std.proofs.Common.{sym, ap, ◌∙◌, subst, arith}
use Rattle.std.specs.FinMap as map
use Rattle.std.specs.List.{AllByRecursion}
use Rattle.std.proofs.lemmas.List.{get_or-map, get_or_append_left, length-map, length_push}
use Rattle.std.proofs.lemmas.List.Elements.{recursion_from_All}
use Rattle.std.proofs.lemmas.Bool.{cases_eq, ltb-true, ltb-false}
use Rattle.profile_rows.specs.Values.{BatchState, IsBatch, Row, rows_at}
use Rattle.profile_rows.specs.Aggregate.{Weighted, with_rows}
use Rattle.profile_rows.proofs.FourValues.{value_of-past}
use Rattle.profile_rows.specs.Merging.{no_row}
use Rattle.call_tree.specs.State.{TreeState, PlainTree, AreGrown, AreStates, IsAppended, IsFresh, IsGrown, nodes_at}
use Rattle.call_tree.specs.State.{plain_at, name_at, weights_of}
use Rattle.call_tree.specs.Plans.{AreCredited, AreFirstSlots, AreSlots, HasAdded, HasSameWeights, IsCredited}
use Rattle.call_tree.proofs.Indexing.{IsGrown-added}
use Rattle.call_tree.proofs.Trees.{nodes_at-past}

pub weights-grown : (before after : TreeState)
    → AreGrown before after → (value : ℕ) → weights_of after value ≡ weights_of before value
weights-grown before after grown value = grind (arith, common_steps, ltb-true, ltb-false, nodes_at-past)

pub AreGrown-named : (before after : TreeState) (name : List ℕ) → after.width ≡ before.width
    → after.names ≡ before.names ++ name ∷ [] → after.values ≡ before.values → AreGrown before after
AreGrown-named before after name width names values = grind (arith, common_steps, get_or_append_left, length_push)

pub AreGrown-appended : (before after : TreeState) (parent name : ℕ) (counts : Bool)
    → AreStates before → IsFresh (plain_at before 0) parent name counts
    → IsAppended before parent name after → AreGrown before after
AreGrown-appended before after parent name counts states fresh appended = record {
  width = appended.width;
  count = appended.count;
  each = λ value values_lt.
      let lt : value < before.width = omega (arith, values_lt, states.width) in
      let size = states.sizes value lt in
      let stack = states.stacks value parent lt in
      subst (IsGrown (plain_at before value)) (λ i. record {
        names = sym appended.names i;
        nodes = ((λ j. nodes_at before value ++ (record {
          stack =
              stack j ++ name_at before.names name ∷ [];
          weight = 0;
        }) ∷ []) ∙ sym (appended.each value values_lt)) i;
      })
      (IsGrown-added (plain_at before value) parent name
      (states.each value lt) (omega (arith, size, fresh.parent_lt)) fresh.name_lt
      (λ k k_lt e. fresh.fresh k (omega (arith, size, k_lt))
      (sym (states.stacks value k lt) ∙ e ∙ ap (λ s. s ++ name_at before.names name ∷ []) stack)));
}

-- ---- credits by one value after the other

pub AreCredited-step : (before now next : TreeState) (rows : List Row) (count : ℕ) → AreCredited before now rows count
    → next.width ≡ now.width
    → next.names ≡ now.names → IsCredited (plain_at now count) (plain_at next count) (rows_at count rows)
    → ((other : ℕ) → (other ≡ count → ⊥) → nodes_at next other ≡ nodes_at now other)
    → AreCredited before next rows (count + 1)
AreCredited-step before now next rows count so_far width names here others = grind (arith, cases_eq)

pub AreCredited-start : (tree : TreeState) (rows : List Row) → AreCredited tree tree rows 0
AreCredited-start tree rows =
    record { width = refl; names = refl; done = λ value lt. absurd (omega arith); left = λ value le. refl }

with_rows-weightless : (value : ℕ) (weights : Weighted) (rows : List Row)
    → AllByRecursion (λ row. length row.weights ≤ value) rows → with_rows weights (rows_at value rows) ≡ weights
with_rows-weightless value weights [] all = refl
with_rows-weightless value weights (row ∷ rows) all =
    grind (arith, common_steps, value_of-past, with_rows-weightless value weights rows all.1)

pub weights-credited : (before now : TreeState) (rows : BatchState) (count : ℕ)
    → IsBatch rows → rows.width ≡ count → AreCredited before now rows.rows count
    → (value : ℕ) → weights_of now value ≡ with_rows (weights_of before value) (rows_at value rows.rows)
weights-credited before now rows count batch width credited value =
    grind (arith, recursion_from_All, ltb-true, ltb-false, with_rows-weightless)

-- ---- a tree that grew, and was credited then

pub HasAdded-credited : (before grown now : TreeState) (rows : BatchState) (count : ℕ) → AreGrown before grown
    → IsBatch rows → rows.width ≡ count → AreCredited grown now rows.rows count → HasAdded before now rows
HasAdded-credited before grown now rows count more batch width credited = record {
  weights = λ value. weights-credited grown now rows count batch width credited value
      ∙ ap (λ m. with_rows m (rows_at value rows.rows)) (weights-grown before grown more value);
  width = credited.width ∙ more.width;
}

pub HasSameWeights-grown : (before grown : TreeState) → AreGrown before grown → HasSameWeights before grown
HasSameWeights-grown before grown more = record { weights = weights-grown before grown more; width = more.width }

-- ---- the slots of a batch's rows

-- the slots in the tree as it was are those in the tree by any value
pub AreSlots-by : (tree : TreeState) (rows : List Row) (slots : List ℕ) (value : ℕ)
    → AreStates tree → value < tree.width → AreSlots (plain_at tree 0) rows slots
    → AreSlots (plain_at tree value) rows slots
AreSlots-by tree rows slots value states lt are = grind (arith, common_steps)

pub AreSlots-first : (tree : PlainTree) (rows : List Row) (slots : List ℕ)
    → AreFirstSlots tree (rows_at 0 rows) slots (length (rows_at 0 rows)) → AreSlots tree rows slots
AreSlots-first tree rows slots are = grind (arith, common_steps, get_or-map, length-map)

-- a tree of the root alone has nothing by any value
pub weights-root : (tree : TreeState)
    → AreStates tree → ((value : ℕ) → value < tree.width → nodes_at tree value ≡ no_row ∷ [])
    → (value : ℕ) → weights_of tree value ≡ map.empty
weights-root tree states root value = grind (arith, common_steps, ltb-true, ltb-false, nodes_at-past)
