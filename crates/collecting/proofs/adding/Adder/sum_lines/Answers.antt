-- The lines are the first of what isn't in a window.
use Rattle.std.proofs.lemmas.Grind.{common_steps}
use Rattle.std.proofs.Common.{arith}
use Rattle.std.proofs.lemmas.List.{length-drop, length-take}
use Rattle.collecting.proofs.adding.Adder.sum_lines.Goals as goal

pub pass-requires : goal.pass-requires
pass-requires g c = grind (arith, common_steps, length-drop, length-take)
