-- The names' draft with the samples of the rows.
use Rattle.std.proofs.Common.{refl}
use Rattle.profile_samples.proofs.exporting.draft_of.Goals as goal

pub returns-in-Ok : goal.returns-in-Ok
returns-in-Ok c = rw (c.with_samples.ensures, c.in-Ok.ensures, c.in_ok-samples.ensures) refl
