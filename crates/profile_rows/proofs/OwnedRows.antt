-- Rows of a batch as they are taken out of it, one after the other.
use Rattle.std.proofs.lemmas.Grind.{common_steps}
use Rattle.std.proofs.Common.{◌≡◌, ℕ, ◌*◌, List, [], ◌∷◌, ◌++◌, drop, length, map, take, arith}
use Rattle.std.proofs.lemmas.List.{append_assoc, length_push, map_push}
use Rattle.profile_rows.specs.declared.batch.OwnedRow.{OwnedRow}
use Rattle.profile_rows.specs.declared.weighted_stacks.WeightedStack.{WeightedStack}
use Rattle.profile_rows.specs.OwnedRows.{plain_row}
use Rattle.profile_rows.specs.Values.{with_values}
use Rattle.profile_rows.proofs.RowValues.{row_with, suc_times}

-- the next row is the first of those that were left
pub taken-step : (more : ℕ)
    (taken after : List OwnedRow) (row : WeightedStack) (rest : List WeightedStack) (values : List ℕ) (owned : OwnedRow)
    → after ≡ taken ++ owned ∷ []
    → plain_row owned ≡ row_with row.stack (row.weight ∷ take more (drop (length taken * more) values))
    → map plain_row after ++ with_values more rest (drop (length after * more) values)
    ≡ map plain_row taken ++ with_values more (row ∷ rest) (drop (length taken * more) values)
taken-step more taken after row rest values owned grown is =
    grind (arith, common_steps, append_assoc, length_push, map_push, suc_times)
