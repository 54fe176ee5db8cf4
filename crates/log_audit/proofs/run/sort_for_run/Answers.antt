use Rattle.std.proofs.Common.{rules, ◌≡◌, ap}
use Rattle.std.specs.Ordering.{is_lt}
use Rattle.std.proofs.lemmas.List.Sorted.{ranks_by, answers_always}
use Rattle.log_audit.specs.Matching.{LoggedReceipt, run_cmp}
use Rattle.log_audit.proofs.Sorting.{run_cmp-total}
use Rattle.log_audit.proofs.run.sort_for_run.Goals as goal

pub returns-clause-sorted : goal.returns-clause-sorted
returns-clause-sorted c =
    c.in_ok-sort_by.ensures.sorted (λ (a : LoggedReceipt) (b : LoggedReceipt). is_lt (run_cmp a b))
    (ranks_by run_cmp-total (λ (one : LoggedReceipt). one))
    (answers_always _ _ _ (λ f a r q k. let e : r ≡ run_cmp a.0.now a.1.0.now = search rules in ap is_lt e))
