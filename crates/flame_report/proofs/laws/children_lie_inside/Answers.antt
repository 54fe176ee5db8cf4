use Rattle.std.proofs.Common.{rules}
use Rattle.flame_report.proofs.Spans.{child_starts_inside, child_ends_inside, columns_keep_order}
use Rattle.flame_report.proofs.laws.children_lie_inside.Goals as goal

pub returns-clause-starts : goal.returns-clause-starts
returns-clause-starts c = child_starts_inside

pub returns-clause-ends : goal.returns-clause-ends
returns-clause-ends c = child_ends_inside

pub returns-clause-left : goal.returns-clause-left
returns-clause-left c = search (rules, child_starts_inside, columns_keep_order)

pub returns-clause-right : goal.returns-clause-right
returns-clause-right c = search (rules, child_ends_inside, columns_keep_order)
