use Rattle.std.proofs.Common.{rules}
use Rattle.log_audit.specs.Matching.{logged}
use Rattle.log_audit.proofs.Logging.{logged_more}
use Rattle.log_audit.proofs.receipts.all_receipts.Goals as goal

pub loop-log-preserved : goal.loop-log-preserved
loop-log-preserved c =
    logged_more c.args.logs.now c.loop-log.log-index c.log-item.result c.loop-log.all.items c.push_log.new.all.items
    (logged c.args.logs.now)
    c.loop-log-test.true c.log-item.is (search rules) c.loop-log.invariant
