use Rattle.std.proofs.Common.{◌≡◌, ◌+◌, List, take, sym, ap, subst, ◌∙◌, arith}
use Rattle.std.proofs.lemmas.List.{take_more, take_all}
use Rattle.log_audit.specs.Matching.{LoggedReceipt}
use Rattle.op_book.specs.Operations.{PlainReceipt, is_change}
use Rattle.log_audit.proofs.Numbering.{IsCounted, IsCounted-push, at_least, missing_at_end, missing_before, one_if}
use Rattle.log_audit.proofs.replay.first_missing.Goals as goal
use Rattle.log_audit.proofs.replay.first_missing.Goals.{then-is_change, else-is_change}

pub returns-then-receipt-done : goal.returns-then-receipt-done
returns-then-receipt-done c =
    let place = ap (λ (r : PlainReceipt). r.at) c.receipt.view_is
    ∙ ap (λ (one : LoggedReceipt). one.receipt.at) c.one.view_is in
    missing_before c.args.ordered.now
    c.loop-one.one-index c.loop-one.done c.args.count c.one-item.result c.requires.rising c.requires.within
    c.loop-one-test.true c.one-item.is c.loop-one.invariant (omega (arith, place, c.if-receipt-done.true))

pub loop-one-preserved : goal.loop-one-preserved
loop-one-preserved c =
    let all = c.args.ordered.now in
    let one = c.one-item.result in
    let place = ap (λ (r : PlainReceipt). r.at) c.receipt.view_is
    ∙ ap (λ (one : LoggedReceipt). one.receipt.at) c.one.view_is in
    let change : c.is_change.result ≡ is_change one.receipt.op =
    c.is_change.ensures ∙ ap (λ (r : PlainReceipt). is_change r.op) c.receipt.view_is
    ∙ ap (λ (one : LoggedReceipt). is_change one.receipt.op) c.one.view_is in
    let least = at_least all c.loop-one.one-index
    c.loop-one.done one c.requires.rising c.loop-one-test.true c.one-item.is c.loop-one.invariant in
    let done : c.if-is_change.done ≡ c.loop-one.done + one_if (is_change one.receipt.op) = elim c.if-is_change.branch [
      | then-is_change w ↦
          let one_more : one_if (is_change one.receipt.op) ≡ 1 = ap one_if (sym change ∙ w.if-is_change.true) in
          omega (arith, w.done-is, one_more)
      | else-is_change w ↦
          let none_more : one_if (is_change one.receipt.op) ≡ 0 = ap one_if (sym change ∙ w.if-is_change.false) in
          omega (arith, w.done-is, none_more)
    ] in
    rw (take_more all c.loop-one.one-index one c.loop-one-test.true, ← c.one-item.is, done)
    (IsCounted-push (take c.loop-one.one-index all) c.loop-one.done one c.loop-one.invariant
    (omega (arith, least, place, c.if-receipt-done.false)))

pub returns-then-done-count : goal.returns-then-done-count
returns-then-done-count c =
    missing_at_end c.args.ordered.now c.loop-one.done c.args.count
    (subst (λ (seen : List LoggedReceipt). IsCounted seen c.loop-one.done) (take_all
    c.loop-one.one-index c.args.ordered.now c.loop-one-test.false) c.loop-one.invariant) c.if-done-count.true

pub returns-else-done-count : goal.returns-else-done-count
returns-else-done-count c =
    let counted = subst (λ (seen : List LoggedReceipt). IsCounted seen c.loop-one.done)
    (take_all c.loop-one.one-index c.args.ordered.now c.loop-one-test.false) c.loop-one.invariant in
    (counted.numbered, λ place lt. counted.received place (omega (arith, lt, c.if-done-count.false)))
