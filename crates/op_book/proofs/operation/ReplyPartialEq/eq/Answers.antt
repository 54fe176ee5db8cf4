-- What the replies hold is compared.
use Rattle.std.proofs.Common.{rules, ◌≡◌, sym, ◌∙◌}
use Rattle.op_book.specs.Equality.{reply_eq, plain_reply_eq-decides}
use Rattle.op_book.specs.Operations.{plain_reply}
use Rattle.op_book.proofs.operation.ReplyPartialEq.eq.Goals as goal

pub returns-in-Answered-Answered-clause-equal : goal.returns-in-Answered-Answered-clause-equal
returns-in-Answered-Answered-clause-equal c =
    let compared : c.eq.result ≡ reply_eq c.args.self.now c.args.other.now = search rules in
    let decided = plain_reply_eq-decides (plain_reply c.args.self.now) (plain_reply c.args.other.now) in
    (λ e. decided.0 (sym compared ∙ e), λ same. compared ∙ decided.1 same)
