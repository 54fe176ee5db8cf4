-- Rows by their texts, which wait to be counted or to be given names.
use Rattle.std.proofs.Common.{◌≡◌, ◌+◌, ◌<◌, ◌^◌, List, [], ◌∷◌, ◌++◌, refl}
use Rattle.profile_rows.specs.declared.weighted_stacks.WeightedStack.{WeightedStack}
use Rattle.profile_rows.specs.Merging.{AddsRow, AreMergedSoFar}
use Rattle.profile_rows.specs.Rows.{total_of}
use Rattle.profile_rows.proofs.MergedRows.{AreMergedSoFar-row}

-- a row more of a text is a row more of the sums that wait
pub waits : (rows merged sums new : List WeightedStack) (row : WeightedStack)
    → AreMergedSoFar rows merged → merged ≡ sums → AddsRow sums new row
    → (total_of rows + row.weight < 2 ^ 63) × AreMergedSoFar (rows ++ row ∷ []) new
waits rows merged sums new row same is adds =
    let so_far = rw is at same in
    (rw (← so_far.total) adds.fits, AreMergedSoFar-row rows (rows ++ row ∷ []) sums new row so_far adds refl)
