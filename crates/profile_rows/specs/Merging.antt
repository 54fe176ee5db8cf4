-- Rows in which equal stacks were put together.
use Rattle.std.specs.Prelude.{ℕ, ◌≡◌, ◌+◌, ◌^◌, ◌<◌, ◌≤◌, All, false, List, [], length, slice_index_or}
use Rattle.std.specs.Prelude.{slice_set}
use Rattle.std.specs.Ordering.{is_lt}
use Rattle.std.specs.declared.cmp.Ordering.{Ordering}
use Rattle.profile_rows.specs.declared.weighted_stacks.WeightedStack.{WeightedStack}
use Rattle.profile_rows.specs.Limits.{most_frames}
use Rattle.profile_rows.specs.Rows.{is_same_stack, stack_cmp, total_of, weight_if, weight_of}
use Rattle.profile_rows.specs.Aggregate.{AreWeighty, IsAscending}

-- a row without frames and weight
abbrev pub no_row : WeightedStack
no_row = record { stack = []; weight = 0 }

-- the row at an index; past the end one without frames and weight
abbrev pub row_at : List WeightedStack → ℕ → WeightedStack
row_at rows at = slice_index_or rows at no_row

-- the rows, of which the one at an index weighs so much more
abbrev pub with_added_at : List WeightedStack → ℕ → ℕ → List WeightedStack
with_added_at rows at weight =
    slice_set rows at (record { stack = (row_at rows at).stack; weight = (row_at rows at).weight + weight })

-- rows in the order of their stacks
abbrev pub by_stack : WeightedStack → WeightedStack → Ordering
by_stack row after = stack_cmp row.stack after.stack

-- no row has a stack after this one
abbrev pub AreUpTo : List (List ℕ) → List WeightedStack → Type 0
AreUpTo stack rows = All (λ (row : WeightedStack). is_lt (stack_cmp stack row.stack) ≡ false) rows

-- sums in the order of their stacks, each above 0, and none of a stack after this one
pub record AreSumsUpTo (stack : List (List ℕ)) (sums : List WeightedStack) : Type 0 where
  pub ascending : IsAscending sums
  pub weighty : AreWeighty sums
  pub up_to : AreUpTo stack sums

-- at the index stands the row of this stack, which is no deeper than a stack can be
abbrev pub IsStackAt : List WeightedStack → List (List ℕ) → ℕ → Type 0
IsStackAt rows stack at = (at < length rows) × ((row_at rows at).stack ≡ stack) × (length stack ≤ most_frames)

-- the rows weigh a row more: each stack does, and all together
pub record AddsRow (old new : List WeightedStack) (row : WeightedStack) : Type 0 where
  pub weights : (stack : List (List ℕ))
      → weight_of new stack ≡ weight_of old stack + weight_if (is_same_stack stack) row
  pub total : total_of new ≡ total_of old + row.weight
  pub fits : total_of old + row.weight < 2 ^ 63

-- the sums weigh what the rows do: each stack does, and all together
pub record AreMergedSoFar (rows sums : List WeightedStack) : Type 0 where
  pub weights : (stack : List (List ℕ)) → weight_of sums stack ≡ weight_of rows stack
  pub total : total_of sums ≡ total_of rows
