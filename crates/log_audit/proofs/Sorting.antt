-- The order of a run.
use Rattle.std.specs.Cmp.{IsTotalOrder}
use Rattle.std.proofs.lemmas.Cmp.{nat_cmp_total, on_total, then_total}
use Rattle.op_book.specs.Receipts.{key_of}
use Rattle.log_audit.specs.Matching.{LoggedReceipt, run_cmp}

pub run_cmp-total : IsTotalOrder run_cmp
run_cmp-total =
    then_total (on_total (λ (one : LoggedReceipt). key_of one.receipt) nat_cmp_total)
    (then_total (on_total (λ (one : LoggedReceipt). one.session) nat_cmp_total)
    (on_total (λ (one : LoggedReceipt). one.index) nat_cmp_total))
