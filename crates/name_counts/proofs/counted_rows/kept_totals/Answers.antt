-- A kept row is counted, and another leaves what is counted.
use Rattle.std.proofs.Common.{rules, ◌≡◌, take, get_or, true, ap, arith}
use Rattle.std.specs.Option.{option_copied}
use Rattle.std.proofs.lemmas.List.Sums.{sum_by_more_le}
use Rattle.profile_rows.specs.declared.weighted_stacks.WeightedStack.{WeightedStack}
use Rattle.profile_rows.specs.Rows.{total_of}
use Rattle.profile_rows.proofs.Kept.{kept_rows-left, kept_rows-more, weight_where-kept-le}
use Rattle.name_counts.proofs.counted_rows.kept_totals.Goals as goal
use Rattle.name_counts.proofs.counted_rows.kept_totals.Goals.{then-keeps+in_ok-count_batch_row, else-keeps}

pub count_batch_row-requires-clause-fits : goal.count_batch_row-requires-clause-fits
count_batch_row-requires-clause-fits c =
    let rows = c.rows-row-items.result.now in
    let before = weight_where-kept-le
    (option_copied c.args.focus) (option_copied c.args.ignored) (λ stack. true) (take c.loop-row.row-index rows) in
    let all = sum_by_more_le
    (λ (row : WeightedStack). row.weight) rows c.loop-row.row-index c.row-item.result c.loop-row-test.true in
    let row : c.row-item.result.weight ≡ (get_or rows c.loop-row.row-index c.row-item.result).weight =
    ap (λ (row : WeightedStack). row.weight) c.row-item.is in
    let held = c.loop-row.invariant.total in
    let batch = ap total_of c.rows-row-items.ensures.rows in
    let fits = c.rows-row-items.ensures.fits in
    omega (arith, before, all, row, held, batch, fits)

pub loop-row-preserved : goal.loop-row-preserved
loop-row-preserved c = search (rules, kept_rows-left, kept_rows-more, else-keeps)
