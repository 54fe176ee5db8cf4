use Rattle.std.proofs.Common.{refl}
use Rattle.flame_report.proofs.Same.{answer_of-rows_of, answer_of-same}
use Rattle.flame_report.proofs.laws.answers_are_by_the_aggregate.Goals as goal

pub returns : goal.returns
returns c = record { same = answer_of-same; in_order = λ query rows. answer_of-rows_of query rows rows refl }
