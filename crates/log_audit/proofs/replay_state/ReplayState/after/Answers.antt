-- What counts after one receipt more.
use Rattle.std.proofs.Common.{rules, ◌≡◌, ◌+◌, sym, ap, ◌∙◌, arith}
use Rattle.std.specs.Arc.{arc_value}
use Rattle.log_audit.specs.Matching.{LoggedReceipt}
use Rattle.op_book.specs.Operations.{PlainReceipt, add, ask, plain_op}
use Rattle.log_audit.proofs.Totals.{profile_after-resets, total_after-add, total_after-ask, total_after-light}
use Rattle.log_audit.proofs.replay_state.ReplayState.after.Goals as goal

pub plus-requires-clause-fits : goal.plus-requires-clause-fits
plus-requires-clause-fits c = λ value.
    let all = c.args.ordered.now in
    let one = c.index-ordered-at.result in
    let batch = c.deref.result.now in
    let op : one.receipt.op ≡ add batch = ap (λ (one : LoggedReceipt). one.receipt.op) (sym c.one.view_is) ∙ ap
    (λ (r : PlainReceipt). r.op) (sym c.receipt.view_is) ∙ ap plain_op c.in-Add.is ∙ ap add (sym c.deref.ensures) in
    let next = total_after-add all c.args.at one batch c.requires.within c.index-ordered-at.is op value in
    let light = total_after-light all c.requires.light (c.args.at + 1) value in
    omega (arith, next, light, c.requires.followed.totals value, c.total.ensures.totals.each value)

pub returns-in-Add : goal.returns-in-Add
returns-in-Add c = search (rules, total_after-add)

pub returns-in_ok-emptied-in-Reset : goal.returns-in_ok-emptied-in-Reset
returns-in_ok-emptied-in-Reset c = search (rules, profile_after-resets)

pub returns-in-Ask : goal.returns-in-Ask
returns-in-Ask c =
    let all = c.args.ordered.now in
    let one = c.index-ordered-at.result in
    let query = arc_value c.in-Ask.field-0 in
    let op : one.receipt.op ≡ ask query = ap (λ (one : LoggedReceipt). one.receipt.op) (sym c.one.view_is)
    ∙ ap (λ (r : PlainReceipt). r.op) (sym c.receipt.view_is) ∙ ap plain_op c.in-Ask.is in
    let before = c.requires.followed in record {
      totals = λ value. before.totals value
          ∙ sym (total_after-ask all c.args.at one query c.requires.within c.index-ordered-at.is op value);
      width_is = before.width_is;
      wide = before.wide;
      grown = omega (arith, before.grown);
      tree = before.tree;
    }
