-- The tree's totals are those of the rows whose aggregate it is.
use Rattle.std.proofs.lemmas.Grind.{common_steps}
use Rattle.std.proofs.Common.{◌≡◌, ◌<◌, ◌^◌, ℕ, true, ap, ◌∙◌, subst, arith}
use Rattle.call_tree.specs.State.{TreeState, total_in, weights_of}
use Rattle.profile_rows.specs.Values.{rows_at}
use Rattle.op_book.specs.Books.{BookState, weight_so_far}
use Rattle.op_book.specs.Operations.{operations_of, profile_after}
use Rattle.op_book.proofs.book.Book.totals.Goals as goal
use Rattle.op_book.proofs.book.Book.totals.Goals.{After-total}

totals_by_tree : (c : After-total) (value : ℕ)
    → total_in (weights_of c.tree.result.now value) ≡ weight_so_far c.args.self.now value
totals_by_tree c value =
    ap (λ (tree : TreeState). total_in (weights_of tree value)) c.tree.ensures
    ∙ ap total_in (c.self.invariant.1 value)
    ∙ c.sums_are_those_of_the_aggregate.ensures.rows
    (λ stack. true) (rows_at value (profile_after (operations_of c.self.inside.ledger.entries)))
    ∙ ap (λ (book : BookState). weight_so_far book value) c.self.view_is

pub returns : goal.returns
returns c = record {
  width = grind (arith, common_steps);
  rows = λ value. c.total.ensures.totals value ∙ totals_by_tree c value;
  tree = grind (arith, common_steps);
  fits = λ value. subst (λ n. n < 2 ^ 63) (totals_by_tree c value) (c.total.ensures.fits value);
}
