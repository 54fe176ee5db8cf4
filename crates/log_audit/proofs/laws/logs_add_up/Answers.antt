use Rattle.profile_rows.specs.Values.{rows_at}
use Rattle.op_book.specs.Operations.{counting_from, profile_after}
use Rattle.log_audit.specs.Logs.{rows_logged}
use Rattle.log_audit.proofs.Weighing.{logged_rows_weigh}
use Rattle.log_audit.proofs.laws.logs_add_up.Goals as goal

pub returns : goal.returns
returns c = λ logs run operations once legal changes value.
    c.aggregate_is_by_weights.ensures
    (rows_at value (rows_logged (counting_from operations) logs)) (rows_at value (profile_after operations))
    (logged_rows_weigh logs run operations once legal changes value)
