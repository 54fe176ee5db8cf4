use Rattle.flame_report.proofs.Siblings.{own_weight-last, own_weight-alone}
use Rattle.flame_report.proofs.laws.own_weight_lies_right.Goals as goal

pub returns-clause-last : goal.returns-clause-last
returns-clause-last c = own_weight-last

pub returns-clause-alone : goal.returns-clause-alone
returns-clause-alone c = own_weight-alone
