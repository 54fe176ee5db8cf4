-- Row by row, each path is drawn where it first comes.
use Rattle.std.proofs.lemmas.Grind.{common_steps}
use Rattle.std.proofs.Common.{◌≡◌, arith, map, ℕ, List, ◌++◌}
use Rattle.flame_report.specs.Answers.{rect_of}
use Rattle.flame_report.specs.Sharing.{shown_of}
use Rattle.profile_rows.specs.declared.weighted_stacks.WeightedStack.{WeightedStack}
use Rattle.flame_report.proofs.Held.{held_weight-le}
use Rattle.flame_report.proofs.NewPaths.{paths_until-whole}
use Rattle.std.proofs.lemmas.List.Sums.{sum_by_more}
use Rattle.flame_report.proofs.layout.Plan.rects.Goals as goal

drawn-append : (columns : ℕ) (rows : List WeightedStack) (paths more : List (List (List ℕ)))
    → map rect_of (shown_of columns rows (paths ++ more))
    ≡ map rect_of (shown_of columns rows paths) ++ map rect_of (shown_of columns rows more)
drawn-append columns rows paths more = grind (arith, common_steps)

pub overflow_sub-before : goal.overflow_sub-before
overflow_sub-before c = grind (arith, common_steps, held_weight-le)

pub draw_row-requires-clause-start : goal.draw_row-requires-clause-start
draw_row-requires-clause-start c = grind (arith, common_steps, held_weight-le)

pub loop-at-preserved : goal.loop-at-preserved
loop-at-preserved c = grind (arith, drawn-append, sum_by_more)

pub returns : goal.returns
returns c = grind (arith, c.len-at-end.ensures, paths_until-whole c.args.self.now.rows.now)
