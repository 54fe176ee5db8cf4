use Rattle.std.proofs.Common.{◌≢◌, All, take, sym, subst, ◌∙◌, arith}
use Rattle.std.proofs.lemmas.Grind.{common_steps}
use Rattle.op_book.specs.declared.entry.SessionLog.{SessionLog}
use Rattle.log_audit.proofs.Passing.{has_session, has_no_session, pairs_all, pairs_more, second_log}
use Rattle.log_audit.proofs.receipts.second_log.Goals as goal

pub returns-then-contains : goal.returns-then-contains
returns-then-contains c = grind (arith, common_steps, has_session, second_log)

pub loop-log-preserved : goal.loop-log-preserved
loop-log-preserved c = (
  pairs_more (λ (a : SessionLog) (b : SessionLog). a.session ≢ b.session)
      c.args.logs.now c.loop-log.log-index c.log-item.result c.loop-log-test.true c.loop-log.invariant.0
      (subst (λ (log : SessionLog). All
      (λ (a : SessionLog). a.session ≢ log.session) (take c.loop-log.log-index c.args.logs.now)) c.log-item.is
      (has_no_session (take c.loop-log.log-index c.args.logs.now) c.log-item.result.session
      (sym (c.loop-log.invariant.1 c.log-item.result.session) ∙ sym c.contains.ensures ∙ c.if-contains.false))),
  λ q. grind (arith, common_steps, c.loop-log.invariant.1 q),
)

pub returns : goal.returns
returns c = pairs_all (λ (a : SessionLog) (b : SessionLog). a.session ≢ b.session)
    c.args.logs.now c.loop-log.log-index c.loop-log-test.false c.loop-log.invariant.0
