-- The weight above a row's own path is that of the last path that it shares.
use Rattle.std.proofs.lemmas.Grind.{common_steps}
use Rattle.std.proofs.Common.{arith}
use Rattle.flame_report.proofs.Held.{known-le-held, held_above}
use Rattle.flame_report.proofs.layout.Plan.held_above.Goals as goal

pub offset_bounds-held-known : goal.offset_bounds-held-known
offset_bounds-held-known c = grind (arith, common_steps, known-le-held)

pub bounds-held-known : goal.bounds-held-known
bounds-held-known c = grind (arith, common_steps, known-le-held)

pub returns-else-known-eq0 : goal.returns-else-known-eq0
returns-else-known-eq0 c = grind (arith, common_steps, held_above)
