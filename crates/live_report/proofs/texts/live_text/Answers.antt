-- The logs tell of what was dealt.
use Rattle.std.proofs.Common.{ℕ, ◌≡◌, ◌++◌, List, Some, None, cond, map, ap, sym, subst, ◌∙◌}
use Rattle.std.specs.Arc.{arc_value}
use Rattle.profile_rows.specs.Values.{BatchState}
use Rattle.op_book.specs.Operations.{PlainOp, plain_op}
use Rattle.op_book.specs.declared.entry.SessionLog.{SessionLog}
use Rattle.live_store.specs.Workers.{ops_told}
use Rattle.live_report.specs.Dealing.{AreDealt, AreLogsOf, warm_lists}
use Rattle.live_report.proofs.texts.live_text.Goals as goal

pub returns : goal.returns
returns g c =
    let options = c.args.options in
    let batch : BatchState = arc_value c.args.batch in
    let lists : List (List PlainOp) = map (λ list. map plain_op list.items) c.in_ok-lists.lists.items in
    let logs : List SessionLog = c.in_ok-stored.stored.logs.items in
    let told : map (λ (log : SessionLog). ops_told log.receipts) logs
    ≡ warm_lists (cond options.warm (Some batch) None) ++ lists =
    c.in_ok-stored.ensures.told ∙ ap (λ warm. warm_lists warm ++ lists) c.in_ok-warm.ensures in
    let worked : AreLogsOf options batch logs = record {
      lists = lists;
      dealt = subst (λ (n : ℕ). AreDealt batch n lists) c.sessions.ensures.sessions c.in_ok-lists.ensures;
      told = told;
    } in
    c.audited_text-text.ensures batch (ap (λ (b : BatchState). b.width) (sym c.deref-2.ensures)
    ∙ sym c.width-width.ensures.width ∙ sym c.in_ok-blank.ensures.blank.2 ∙ sym c.in_ok-stored.ensures.width)
    (subst (AreLogsOf options batch) (sym c.deref-3.ensures.value) worked)
