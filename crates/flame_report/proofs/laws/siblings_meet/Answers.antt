use Rattle.flame_report.proofs.Siblings.{siblings-first, siblings-next}
use Rattle.flame_report.proofs.laws.siblings_meet.Goals as goal

pub returns-clause-first : goal.returns-clause-first
returns-clause-first c = siblings-first

pub returns-clause-next : goal.returns-clause-next
returns-clause-next c = siblings-next
