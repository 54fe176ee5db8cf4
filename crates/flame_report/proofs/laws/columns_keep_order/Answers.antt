use Rattle.std.proofs.Common.{rules}
use Rattle.flame_report.proofs.Siblings.{siblings-order}
use Rattle.flame_report.proofs.Spans as spans
use Rattle.flame_report.proofs.laws.columns_keep_order.Goals as goal

pub returns-clause-weights : goal.returns-clause-weights
returns-clause-weights c = siblings-order

pub returns-clause-columns : goal.returns-clause-columns
returns-clause-columns c = search (rules, siblings-order, spans.columns_keep_order)
