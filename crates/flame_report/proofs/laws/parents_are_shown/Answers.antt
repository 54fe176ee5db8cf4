use Rattle.flame_report.proofs.Listed.{shown_listed, parents_listed}
use Rattle.flame_report.proofs.laws.parents_are_shown.Goals as goal

pub returns-clause-shown : goal.returns-clause-shown
returns-clause-shown c = shown_listed

pub returns-clause-parents : goal.returns-clause-parents
returns-clause-parents c = parents_listed
