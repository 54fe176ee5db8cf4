-- The tree of the receipts so far, one by one.
use Rattle.std.proofs.Common.{rules, ◌≡◌, ◌<◌, ◌+◌, ◌^◌, ◌++◌, ◌∷◌, [], List, length, take, sym, ap, subst, ◌∙◌, arith}
use Rattle.profile_rows.specs.Rows.{total_of}
use Rattle.profile_rows.specs.Values.{rows_at}
use Rattle.log_audit.specs.Matching.{LoggedReceipt}
use Rattle.op_book.specs.Operations.{PlainOp, PlainReceipt, plain_op, profile_after}
use Rattle.log_audit.specs.Replays.{IsTreeOf, ops_in}
use Rattle.log_audit.proofs.Replaying.{ops_in-more, take-ops_in}
use Rattle.log_audit.proofs.replay_state.ReplayState.grown_to.Goals as goal

pub with_operation-requires-clause-light : goal.with_operation-requires-clause-light
with_operation-requires-clause-light c =
    let all = c.args.ordered.now in
    let place = c.loop-place.place in
    let one = c.index-ordered-place.result in
    let lt : place < length all = omega (arith, c.loop-place-test.true, c.requires.within) in
    let op : plain_op c.receipt.inside.op ≡ one.receipt.op = ap (λ (r : PlainReceipt). r.op) c.receipt.view_is
    ∙ ap (λ (one : LoggedReceipt). one.receipt.op) c.one.view_is in
    let more = take-ops_in all (place + 1) ∙ ops_in-more all place one lt c.index-ordered-place.is
    ∙ ap (λ (o : PlainOp). ops_in (take place all) ++ o ∷ []) (sym op) in (
      ops_in (take place all),
      c.loop-place.invariant.1,
      λ value. subst (λ (ops : List PlainOp). total_of (rows_at value (profile_after ops)) < 2 ^ 63) more
          (c.requires.light (place + 1) value),
    )

pub loop-place-preserved : goal.loop-place-preserved
loop-place-preserved c =
    let all = c.args.ordered.now in
    let place = c.loop-place.place in
    let one = c.index-ordered-place.result in
    let lt : place < length all = omega (arith, c.loop-place-test.true, c.requires.within) in
    let op : plain_op c.receipt.inside.op ≡ one.receipt.op = ap (λ (r : PlainReceipt). r.op) c.receipt.view_is
    ∙ ap (λ (one : LoggedReceipt). one.receipt.op) c.one.view_is in
    let more = ops_in-more all place one lt c.index-ordered-place.is
    ∙ ap (λ (o : PlainOp). ops_in (take place all) ++ o ∷ []) (sym op) in (
      c.in_ok-grower.ensures.width ∙ c.loop-place.invariant.0,
      subst (λ (ops : List PlainOp). IsTreeOf ops c.in_ok-grower.grower)
          (sym more) (c.in_ok-grower.ensures.tree (ops_in (take place all)) c.loop-place.invariant.1),
    )

pub returns-clause-followed : goal.returns-clause-followed
returns-clause-followed c = search (rules)

pub returns-clause-tree : goal.returns-clause-tree
returns-clause-tree c = search (rules)
