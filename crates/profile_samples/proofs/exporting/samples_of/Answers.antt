-- The next row's sample.
use Rattle.std.proofs.lemmas.Grind.{common_steps}
use Rattle.std.proofs.Common.{◌≡◌, ◌<◌, ℕ, List, ap, arith, length, ◌∙◌}
use Rattle.profile_rows.specs.declared.weighted_stacks.WeightedStack.{WeightedStack}
use Rattle.profile_rows.specs.Values.{Row, rows_at}
use Rattle.folded_text.proofs.Writing.{length-rows_at}
use Rattle.profile_samples.proofs.ExportedValues.{weights_small}
use Rattle.profile_samples.proofs.exporting.samples_of.Goals as goal

within : (rows : List Row) (first lent : List WeightedStack) (at : ℕ)
    → lent ≡ first → first ≡ rows_at 0 rows → at < length lent → at < length rows
within rows first lent at same is lt =
    let size = ap length (same ∙ is) in
    let long = length-rows_at 0 rows in
    omega (arith, lt, size, long)

pub sample_of-requires : goal.sample_of-requires
sample_of-requires c = grind (arith, common_steps, weights_small, within)
