-- Without a focus and an ignored name all rows are kept.
use Rattle.std.proofs.lemmas.Grind.{common_steps}
use Rattle.std.proofs.Common.{arith}
use Rattle.profile_rows.proofs.Kept.{kept_rows-all}
use Rattle.ordered_rows.proofs.ordered_rows.OrderedRows.frame_totals.Goals as goal

pub returns-in-Named : goal.returns-in-Named
returns-in-Named c = grind (arith, common_steps, kept_rows-all)
