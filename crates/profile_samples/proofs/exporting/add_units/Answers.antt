-- The next value's kind and unit are added.
use Rattle.std.proofs.lemmas.Grind.{common_steps}
use Rattle.std.proofs.Common.{arith}
use Rattle.profile_samples.proofs.ExportedValues.{no_unit, units_more}
use Rattle.profile_samples.proofs.exporting.add_units.Goals as goal

pub loop-unit-preserved : goal.loop-unit-preserved
loop-unit-preserved c = grind (arith, common_steps, no_unit, units_more)
