-- What each kind of answer holds is compared.
use Rattle.std.proofs.Common.{rules, ◌≡◌}
use Rattle.flame_report.specs.Equality.{answer_eq, answer_eq-decides}
use Rattle.flame_report.proofs.answer.AnswerPartialEq.eq.Goals as goal

pub returns-in-Top-Top-clause-equal : goal.returns-in-Top-Top-clause-equal
returns-in-Top-Top-clause-equal c =
    let compared : c.eq.result ≡ answer_eq c.args.self.now c.args.other.now = search rules in
    rw compared (answer_eq-decides c.args.self.now c.args.other.now)

pub returns-in-Flame-Flame-clause-equal : goal.returns-in-Flame-Flame-clause-equal
returns-in-Flame-Flame-clause-equal c =
    let compared : c.eq-in-Flame-Flame.result ≡ answer_eq c.args.self.now c.args.other.now = search rules in
    rw compared (answer_eq-decides c.args.self.now c.args.other.now)
