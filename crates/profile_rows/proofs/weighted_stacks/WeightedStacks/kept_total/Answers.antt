-- What is kept weighs no more than all rows together.
use Rattle.std.proofs.Common.{◌≡◌, arith, ap, get_or, take, true}
use Rattle.std.proofs.lemmas.List.Sums.{sum_by_more_le}
use Rattle.std.specs.Option.{option_copied}
use Rattle.profile_rows.specs.declared.weighted_stacks.WeightedStack.{WeightedStack}
use Rattle.profile_rows.specs.Rows.{total_of}
use Rattle.profile_rows.proofs.Kept.{weight_where-kept-le}
use Rattle.profile_rows.proofs.weighted_stacks.WeightedStacks.kept_total.Goals as goal

pub overflow_add-total : goal.overflow_add-total
overflow_add-total c =
    let rows = c.rows-row-items.result.now in
    let before = weight_where-kept-le
    (option_copied c.args.focus) (option_copied c.args.ignored) (λ stack. true) (take c.loop-row.row-index rows) in
    let all = sum_by_more_le
    (λ (row : WeightedStack). row.weight) rows c.loop-row.row-index c.row-item.result c.loop-row-test.true in
    let row : c.row-item.result.weight ≡ (get_or rows c.loop-row.row-index c.row-item.result).weight =
    ap (λ (row : WeightedStack). row.weight) c.row-item.is in
    let held = c.loop-row.invariant in
    let batch = ap total_of c.rows-row-items.ensures.rows in
    let fits = c.rows-row-items.ensures.fits in
    omega (arith, before, all, row, held, batch, fits)
