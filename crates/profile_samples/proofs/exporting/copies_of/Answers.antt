-- The next text is copied.
use Rattle.std.proofs.lemmas.Grind.{common_steps}
use Rattle.std.proofs.Common.{arith}
use Rattle.name_counts.proofs.TextNumbers.{next_text}
use Rattle.profile_samples.proofs.exporting.copies_of.Goals as goal

pub loop-text-preserved : goal.loop-text-preserved
loop-text-preserved c = grind (arith, common_steps, next_text)
