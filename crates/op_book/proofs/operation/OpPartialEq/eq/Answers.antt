-- What the operations hold is compared.
use Rattle.std.proofs.Common.{rules, ◌≡◌, sym, ◌∙◌}
use Rattle.op_book.specs.Equality.{op_eq, plain_op_eq-decides}
use Rattle.op_book.specs.Operations.{plain_op}
use Rattle.op_book.proofs.operation.OpPartialEq.eq.Goals as goal

pub returns-in-Add-Add-clause-equal : goal.returns-in-Add-Add-clause-equal
returns-in-Add-Add-clause-equal c =
    let compared : c.eq.result ≡ op_eq c.args.self.now c.args.other.now = search rules in
    let decided = plain_op_eq-decides (plain_op c.args.self.now) (plain_op c.args.other.now) in
    (λ e. decided.0 (sym compared ∙ e), λ same. compared ∙ decided.1 same)

pub returns-in-Ask-Ask-clause-equal : goal.returns-in-Ask-Ask-clause-equal
returns-in-Ask-Ask-clause-equal c =
    let compared : c.eq-in-Ask-Ask.result ≡ op_eq c.args.self.now c.args.other.now = search rules in
    let decided = plain_op_eq-decides (plain_op c.args.self.now) (plain_op c.args.other.now) in
    (λ e. decided.0 (sym compared ∙ e), λ same. compared ∙ decided.1 same)
