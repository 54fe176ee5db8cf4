-- What is kept of rows, row by row.
use Rattle.std.proofs.lemmas.Grind.{common_steps}
use Rattle.std.proofs.Common.{◌≡◌, ℕ, ◌+◌, ◌<◌, ◌≤◌, Bool, ◌&&◌, true, false, cond, List, [], ◌∷◌, ◌++◌, length, get_or}
use Rattle.std.proofs.Common.{take}
use Rattle.std.proofs.Common.{Option, None, refl, ap, ◌∙◌, arith}
use Rattle.std.proofs.lemmas.List.{append-nil, take_more}
use Rattle.std.proofs.lemmas.List.Elements.{filter-append}
use Rattle.std.proofs.lemmas.List.Sums.{sum_by-cons}
use Rattle.profile_rows.specs.declared.weighted_stacks.WeightedStack.{WeightedStack}
use Rattle.profile_rows.specs.Rows.{is_kept, kept_rows, weight_where, total_of}
use Rattle.profile_rows.proofs.RowLaws.{weight_where-le-total}

pub kept_rows-push : (focus ignored : Option (List ℕ)) (rows : List WeightedStack) (row : WeightedStack)
    → kept_rows focus ignored (rows ++ row ∷ []) ≡ cond
    (is_kept focus ignored row.stack) (kept_rows focus ignored rows ++ row ∷ []) (kept_rows focus ignored rows)
kept_rows-push focus ignored rows row = grind (arith, append-nil, filter-append)

-- what is kept weighs what passes both tests
pub weight_where-kept : (focus ignored : Option (List ℕ)) (test : List (List ℕ) → Bool) (rows : List WeightedStack)
    → weight_where test (kept_rows focus ignored rows)
    ≡ weight_where (λ stack. is_kept focus ignored stack && test stack) rows
weight_where-kept focus ignored test [] = refl
weight_where-kept focus ignored test (row ∷ rows) =
    grind (arith, common_steps, sum_by-cons, weight_where-kept focus ignored test rows)

-- and no more than all
pub weight_where-kept-le : (focus ignored : Option (List ℕ)) (test : List (List ℕ) → Bool) (rows : List WeightedStack)
    → weight_where test (kept_rows focus ignored rows) ≤ total_of rows
weight_where-kept-le focus ignored test rows = grind (arith, common_steps, weight_where-le-total, weight_where-kept)

-- ---- the rows so far, in a loop over them

kept_rows-take : (focus ignored : Option (List ℕ)) (rows : List WeightedStack) (k : ℕ) (row : WeightedStack)
    → k < length rows → row ≡ get_or rows k row
    → kept_rows focus ignored (take (k + 1) rows)
    ≡ cond (is_kept focus ignored row.stack)
    (kept_rows focus ignored (take k rows) ++ row ∷ []) (kept_rows focus ignored (take k rows))
kept_rows-take focus ignored rows k row lt is = grind (arith, common_steps, take_more, kept_rows-push)

-- one row more that is kept
pub kept_rows-more : (focus ignored : Option (List ℕ)) (rows : List WeightedStack) (k : ℕ) (row : WeightedStack)
    → k < length rows → row ≡ get_or rows k row → is_kept focus ignored row.stack ≡ true
    → kept_rows focus ignored (take (k + 1) rows) ≡ kept_rows focus ignored (take k rows) ++ row ∷ []
kept_rows-more focus ignored rows k row lt is kept = kept_rows-take focus ignored rows k row lt is
    ∙ ap (λ b. cond b (kept_rows focus ignored (take k rows) ++ row ∷ []) (kept_rows focus ignored (take k rows))) kept

-- one row more that isn't
pub kept_rows-left : (focus ignored : Option (List ℕ)) (rows : List WeightedStack) (k : ℕ) (row : WeightedStack)
    → k < length rows → row ≡ get_or rows k row → is_kept focus ignored row.stack ≡ false
    → kept_rows focus ignored (take (k + 1) rows) ≡ kept_rows focus ignored (take k rows)
kept_rows-left focus ignored rows k row lt is left = kept_rows-take focus ignored rows k row lt is
    ∙ ap (λ b. cond b (kept_rows focus ignored (take k rows) ++ row ∷ []) (kept_rows focus ignored (take k rows))) left

pub kept_rows-all : (focus ignored : Option (List ℕ)) (rows : List WeightedStack)
    → focus ≡ None → ignored ≡ None → kept_rows focus ignored rows ≡ rows
kept_rows-all focus ignored rows no_focus none_ignored = ap (λ f. kept_rows f ignored rows) no_focus
    ∙ ap (λ i. kept_rows None i rows) none_ignored ∙ all rows
  where
    all : (rows : List WeightedStack) → kept_rows None None rows ≡ rows
    all [] = refl
    all (row ∷ rows) = ap (λ more. row ∷ more) (all rows)
