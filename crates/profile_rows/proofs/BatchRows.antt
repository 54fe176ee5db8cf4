-- What every row of a batch is.
use Rattle.std.proofs.lemmas.Grind.{common_steps}
use Rattle.std.proofs.Common.{◌^◌, ◌<◌, ◌≤◌, List, length, arith}
use Rattle.std.specs.List.{All}
use Rattle.std.proofs.lemmas.List.Sums.{get_or-le-sum_by}
use Rattle.profile_rows.specs.declared.weighted_stacks.WeightedStack.{WeightedStack}
use Rattle.profile_rows.specs.Names.{IsName}
use Rattle.profile_rows.specs.Rows.{IsBatchRow, total_of}

-- no row weighs more than all
pub weight-le-total : (rows : List WeightedStack) → All (λ (row : WeightedStack). row.weight ≤ total_of rows) rows
weight-le-total rows k d lt = get_or-le-sum_by (λ (row : WeightedStack). row.weight) rows k d lt

-- what a batch's rows are, from their stacks and their total
pub all_batch_rows : (rows : List WeightedStack) → All (λ (row : WeightedStack). All IsName row.stack
    × (length row.stack ≤ 65535)) rows → total_of rows < 2 ^ 63 → All IsBatchRow rows
all_batch_rows rows each fits k d lt = grind (arith, common_steps, weight-le-total)
