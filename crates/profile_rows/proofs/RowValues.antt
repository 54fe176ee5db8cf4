-- Rows of several values that are kept as stacks with their first values, and the other values in one list.
use Rattle.std.proofs.lemmas.Grind.{common_steps}
use Rattle.std.proofs.Common.{rules, ◌≡◌, ℕ, zero, suc, ◌+◌, ◌-◌, ◌*◌, ◌^◌, ◌<◌, ◌≤◌, List, [], ◌∷◌, ◌++◌, length}
use Rattle.std.proofs.Common.{get_or}
use Rattle.std.proofs.Common.{refl, sym, ap, ◌∙◌, subst, arith, take, drop, length-append, length-drop}
use Rattle.std.proofs.lemmas.List.{drop-append-le, take-append-le, length-take-le, map-append}
use Rattle.std.specs.List.{All, AllByRecursion}
use Rattle.std.proofs.lemmas.List.Elements.{All-push, recursion_from_All}
use Rattle.std.proofs.lemmas.List.Sums.{sum_by_push, sum_by-cons}
use Rattle.profile_rows.specs.declared.weighted_stacks.WeightedStack.{WeightedStack}
use Rattle.profile_rows.specs.Rows.{total_of}
use Rattle.profile_rows.specs.Values.{AreParts, AreTotals, BatchState, HasRoom, IsBatch, Row, batch_with, row_in}
use Rattle.profile_rows.specs.Values.{rows_at, single, single_batch, singles, value_of, weighing, with_values}
use Rattle.profile_rows.proofs.FourValues.{value_of-past}

abbrev pub row_with : List (List ℕ) → List ℕ → Row
row_with stack weights = record { stack = stack; weights = weights }

pub suc_times : (n m : ℕ) → suc n * m ≡ m + n * m
suc_times n m = omega arith

pub rows_at-with_values : (m : ℕ) (rows : List WeightedStack) (values : List ℕ)
    → rows_at 0 (with_values m rows values) ≡ rows
rows_at-with_values m [] values = refl
rows_at-with_values m (row ∷ rows) values = ap (λ rest. row ∷ rest) (rows_at-with_values m rows (drop m values))

pub length-with_values : (m : ℕ) (rows : List WeightedStack) (values : List ℕ)
    → length (with_values m rows values) ≡ length rows
length-with_values m [] values = refl
length-with_values m (row ∷ rows) values = ap suc (length-with_values m rows (drop m values))

pub no_times : (m : ℕ) → 0 * m ≡ 0
no_times m = omega arith

pub with_values-push : (m : ℕ) (rows : List WeightedStack) (values : List ℕ) (row : WeightedStack) (more : List ℕ)
    → length values ≡ length rows * m → length more ≡ m
    → with_values m (rows ++ row ∷ []) (values ++ more)
    ≡ with_values m rows values ++ (record { stack = row.stack; weights = row.weight ∷ more }) ∷ []
with_values-push m [] values row more sizes size = grind (arith, common_steps, no_times)
with_values-push m (first ∷ rows) values row more sizes size =
    let times = suc_times (length rows) m in
    let left = length-drop m values in
    let front = take-append-le m values more (omega arith) in
    let back = drop-append-le m values more (omega arith) in
    let rest = with_values-push m rows (drop m values) row more (omega arith) size in
    λ i. row_with first.stack (first.weight ∷ front i)
    ∷ (ap (with_values m (rows ++ row ∷ [])) back ∙ rest) i

-- the stack and the values of a row
pub row_in-with_values : (m : ℕ) (rows : List WeightedStack) (values : List ℕ) (k : ℕ) (d : WeightedStack)
    → k < length rows
    → row_in (with_values m rows values) k
    ≡ record { stack = (get_or rows k d).stack; weights = (get_or rows k d).weight ∷ take m (drop (k * m) values) }
row_in-with_values m [] values k d lt = absurd (omega arith)
row_in-with_values m (row ∷ rows) values zero d lt =
    ap (λ n. row_with row.stack (row.weight ∷ take m (drop n values))) (sym (no_times m))
row_in-with_values m (row ∷ rows) values (suc k) d lt =
    grind (arith, common_steps, suc_times, row_in-with_values m rows (drop m values) k d (omega arith))

-- ---- totals

pub total_of-push : (value : ℕ) (rows : List Row) (row : Row)
    → total_of (rows_at value (rows ++ row ∷ [])) ≡ total_of (rows_at value rows) + value_of value row.weights
total_of-push value rows row = grind (arith, common_steps, map-append, sum_by_push)

pub width-with_values : (m : ℕ) (rows : List WeightedStack) (values : List ℕ) → length values ≡ length rows * m
    → All (λ row. length row.weights ≡ m + 1) (with_values m rows values)
width-with_values m [] values sizes k d lt = absurd (omega arith)
width-with_values m (row ∷ rows) values sizes zero d lt = grind (arith, common_steps, length-take-le, suc_times)
width-with_values m (row ∷ rows) values sizes (suc k) d lt =
    let times = suc_times (length rows) m in
    let left = length-drop m values in
    width-with_values m rows (drop m values) (omega arith) k d (omega arith)

-- ---- rows of one value

pub with_values-single : (rows : List WeightedStack) → with_values 0 rows [] ≡ singles rows
with_values-single [] = refl
with_values-single (row ∷ rows) = ap (λ rest. single row ∷ rest) (with_values-single rows)

-- rows whose one value is their first are those of that value
singles_at : (rows : List Row) → AllByRecursion (λ (row : Row). length row.weights ≡ 1) rows
    → singles (rows_at 0 rows) ≡ rows
singles_at [] all = refl
singles_at (row ∷ rows) all = grind (arith, common_steps, singles_at rows all.1)

-- a batch of one value is that of its rows by this value
pub single_batch-rows_at : (batch : BatchState) → IsBatch batch → batch.width ≡ 1
    → single_batch (rows_at 0 batch.rows) ≡ batch
single_batch-rows_at batch is one = grind (arith, common_steps, recursion_from_All, singles_at)

pub total_of-past : (value : ℕ) (rows : List Row) (width : ℕ)
    → All (λ row. length row.weights ≡ width) rows → width ≤ value → total_of (rows_at value rows) ≡ 0
total_of-past value [] width widths past = refl
total_of-past value (row ∷ rows) width widths past =
    let cons = sum_by-cons (λ (row : WeightedStack). row.weight) (weighing value row) (rows_at value rows) in
    let size = widths 0 row (omega arith) in
    let none = value_of-past value row.weights (omega arith) in
    let rest = total_of-past value rows width (λ k d lt. widths (suc k) d (omega arith)) past in
    omega arith

pub single-AreParts : (rows : List WeightedStack) → total_of rows < 2 ^ 63 → AreParts (total_of rows ∷ []) rows []
single-AreParts rows fits = (sym (times_none (length rows)), batch, are)
  where
    times_none : (n : ℕ) → n * 0 ≡ 0
    times_none n = omega arith

    totals : (value : ℕ) → value_of value (total_of rows ∷ []) ≡ total_of (rows_at value (with_values 0 rows []))
    totals zero = ap total_of (sym (rows_at-with_values 0 rows []))
    totals (suc value) = sym (total_of-past (suc value)
        (with_values 0 rows []) 1 (width-with_values 0 rows [] (sym (times_none (length rows)))) (omega arith))

    below : (value : ℕ) → value_of value (total_of rows ∷ []) < 2 ^ 63
    below zero = fits
    below (suc value) = omega arith

    batch : IsBatch (batch_with (total_of rows ∷ []) rows [])
    batch = record {
      some = omega arith;
      few = omega arith;
      widths = width-with_values 0 rows [] (sym (times_none (length rows)));
      fits = λ value. subst (λ n. n < 2 ^ 63) (totals value) (below value);
    }

    are : AreTotals (batch_with (total_of rows ∷ []) rows []) (total_of rows ∷ [])
    are = record { width = refl; each = totals }

-- ---- one row more

whole_weights : (weights : List ℕ) → 0 < length weights → value_of 0 weights ∷ drop 1 weights ≡ weights
whole_weights [] some = absurd (omega arith)
whole_weights (w ∷ weights) some = refl

module _ (totals : List ℕ)
    (rows : List WeightedStack) (values : List ℕ) (sizes : length values ≡ length rows * (length totals - 1))
    (batch : IsBatch (batch_with totals rows values)) (are : AreTotals (batch_with totals rows values) totals)
    (stack : List (List ℕ)) (weights : List ℕ) (width : length weights ≡ length totals)
    (room : (value : ℕ) → HasRoom (batch_with totals rows values) weights value)
    (sums : List ℕ) (size : length sums ≡ length totals)
    (added : (value : ℕ) → value_of value sums ≡ value_of value totals + value_of value weights) where
  abbrev pub pushed : BatchState
  pushed = record {
    width = length totals;
    rows = with_values (length totals - 1) rows values ++ row_with stack weights ∷ [];
  }

  pub batch_with-push : batch_with sums
      (rows ++ (record { stack = stack; weight = value_of 0 weights }) ∷ []) (values ++ drop 1 weights) ≡ pushed
  batch_with-push = grind (arith, common_steps, length-drop, with_values-push, totals, batch, whole_weights)

  pub pushed-sizes : length (values ++ drop 1 weights)
      ≡ length (rows ++ (record { stack = stack; weight = value_of 0 weights }) ∷ []) * (length sums - 1)
  pushed-sizes = search (rules, length-append, length-drop, suc_times, totals, batch)

  pub pushed-IsBatch : IsBatch pushed
  pushed-IsBatch = grind (arith, common_steps, All-push, total_of-push, totals, batch)

  pub pushed-AreTotals : AreTotals pushed sums
  pushed-AreTotals = grind (arith, common_steps, total_of-push, totals, are)

  pub pushed-AreParts : AreParts sums
      (rows ++ (record { stack = stack; weight = value_of 0 weights }) ∷ []) (values ++ drop 1 weights)
  pushed-AreParts = grind (arith, common_steps, batch_with-push, pushed-sizes, pushed-IsBatch, pushed-AreTotals)

-- ---- reading

module _ (totals : List ℕ) (rows : List WeightedStack) (values : List ℕ) (batch : BatchState)
    (seen : batch_with totals rows values ≡ batch) where
  pub seen-length : length rows ≡ length batch.rows
  seen-length = sym (length-with_values (length totals - 1) rows values) ∙ ap (λ (b : BatchState). length b.rows) seen

  pub seen-row : (at : ℕ) (d : WeightedStack) → at < length rows
      → row_with (get_or rows at d).stack
      ((get_or rows at d).weight ∷ take (length totals - 1) (drop (at * (length totals - 1)) values))
      ≡ row_in batch.rows at
  seen-row at d lt =
      sym (row_in-with_values (length totals - 1) rows values at d lt) ∙ ap (λ (b : BatchState). row_in b.rows at) seen
