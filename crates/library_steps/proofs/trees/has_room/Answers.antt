-- What the tree holds of each value keeps the limit.
use Rattle.std.proofs.Common.{◌<◌, ◌^◌, sym, subst}
use Rattle.library_steps.proofs.trees.has_room.Goals as goal

pub first_heavy-requires-clause-fits : goal.first_heavy-requires-clause-fits
first_heavy-requires-clause-fits c =
    λ value. subst (λ n. n < 2 ^ 63) (sym (c.total-held.ensures.totals value)) (c.total-held.ensures.fits value)
