-- What is held of the paths that are shared stays, each new path has what lies above it, and the row's own its weight.
use Rattle.std.proofs.lemmas.Grind.{common_steps}
use Rattle.std.proofs.Common.{arith}
use Rattle.std.proofs.lemmas.List.{take_all, length-take-le}
use Rattle.std.proofs.lemmas.List.Sums.{sum_by_more_le}
use Rattle.profile_rows.specs.Merging.{no_row}
use Rattle.flame_report.proofs.Held.{known-le, known-le-held, held_more, held_weight-le}
use Rattle.flame_report.proofs.layout.Plan.hold.Goals as goal

pub overflow_add-above : goal.overflow_add-above
overflow_add-above c = grind (arith, common_steps, sum_by_more_le, held_weight-le)

pub returns : goal.returns
returns c =
    let less = known-le c.args.self.now.rows.now c.args.at c.requires.plan.ascending c.requires.at in
    let fits = known-le-held c.args.held.now.items c.args.self.now.rows.now c.args.at c.requires.held in
    held_more c.args.held.now.items c.push.new.self.items c.args.self.now.rows.now c.args.at c.args.above no_row
    c.requires.plan.ascending c.requires.at c.requires.held c.requires.above (grind (arith, take_all, length-take-le))
