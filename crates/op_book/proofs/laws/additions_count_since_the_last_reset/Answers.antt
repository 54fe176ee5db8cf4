use Rattle.op_book.proofs.Counting.{batches_after-all, batches_after-last, batches_after-report}
use Rattle.op_book.proofs.laws.additions_count_since_the_last_reset.Goals as goal

pub returns-clause-last : goal.returns-clause-last
returns-clause-last c = batches_after-last

pub returns-clause-all : goal.returns-clause-all
returns-clause-all c = batches_after-all

pub returns-clause-reports : goal.returns-clause-reports
returns-clause-reports c = batches_after-report
