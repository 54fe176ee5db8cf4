use Rattle.flame_report.proofs.Listed.{drawn_in_order, listed_weighs, paths_ascend, weighty_path}
use Rattle.flame_report.proofs.laws.rectangles_come_in_order.Goals as goal

pub returns-clause-ascending : goal.returns-clause-ascending
returns-clause-ascending c = paths_ascend

pub returns-clause-weighty : goal.returns-clause-weighty
returns-clause-weighty c = λ rows path. (listed_weighs rows path, weighty_path rows path)

pub returns-clause-drawn : goal.returns-clause-drawn
returns-clause-drawn c = drawn_in_order
