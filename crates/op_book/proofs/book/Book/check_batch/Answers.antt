-- What is held of each value, and the batch's.
use Rattle.std.proofs.Common.{◌<◌, ◌^◌, sym, subst}
use Rattle.op_book.proofs.book.Book.check_batch.Goals as goal

pub first_heavy-requires-clause-fits : goal.first_heavy-requires-clause-fits
first_heavy-requires-clause-fits c =
    λ value. subst (λ n. n < 2 ^ 63) (sym (c.totals-totals.ensures.rows value)) (c.totals-totals.ensures.fits value)
