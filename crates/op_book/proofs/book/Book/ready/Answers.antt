-- Nothing but the nodes of the tree and the memory has changed.
use Rattle.std.proofs.Common.{◌≡◌, ◌<◌, length, List, ap, sym, subst, ◌∙◌}
use Rattle.op_book.specs.Books.{BookState, HasTurn}
use Rattle.op_book.specs.Changes.{change_op}
use Rattle.op_book.specs.Ledgers.{LedgerState}
use Rattle.op_book.specs.Operations.{PlainEntry}
use Rattle.op_book.proofs.Readiness.{IsReady-made, change_op-is_change}
use Rattle.op_book.proofs.book.Book.ready.Goals as goal

pub invariant_of-result : goal.invariant_of-result
invariant_of-result c =
    let book = c.args.self.now in
    let same = c.in_ok-plan.ensures.unchanged in
    let value : c.of.result.value ≡ record c.self-2.inside.ledger { capacity = c.reserve.new.self.capacity } =
    c.of.ensures ∙ c.reserve.ensures.same in
    let entries : c.of.result.value.entries ≡ book.entries = ap (λ (l : LedgerState). l.entries) value
    ∙ ap (λ (b : BookState). b.entries) c.self-2.view_is ∙ same.entries in
    let limit : c.of.result.value.limit ≡ book.limit = ap (λ (l : LedgerState). l.limit) value
    ∙ ap (λ (b : BookState). b.limit) c.self-2.view_is ∙ same.limit in
    let sessions : c.of.result.value.sessions ≡ book.sessions = ap (λ (l : LedgerState). l.sessions) value
    ∙ ap (λ (b : BookState). b.sessions) c.self-2.view_is ∙ same.sessions in
    let width : c.of.result.value.width ≡ book.width = ap (λ (l : LedgerState). l.width) value
    ∙ ap (λ (b : BookState). b.width) c.self-2.view_is ∙ same.width in
    let turn = subst (λ (b : BookState). HasTurn b.entries b.limit b.sessions c.args.session c.args.turn)
    c.self.view_is c.in_ok-admit.ensures in
    let memory : length c.of.result.value.entries < c.of.result.value.capacity =
    subst (λ (l : LedgerState). length l.entries < l.capacity) (sym c.of.ensures) c.in_ok-reserve.ensures.memory in
    let memory_is = subst (λ (es : List PlainEntry). length es < c.of.result.value.capacity) entries memory in
    let place : c.len-place.result ≡ length book.entries = c.len-place.ensures
    ∙ ap length (ap (λ (l : LedgerState). l.entries) (sym c.of.ensures) ∙ entries) in
    rw (entries, limit, sessions, width)
    (IsReady-made book c.in_ok-plan.plan.before c.of.result.value.capacity c.args.session c.args.turn c.len-place.result
    c.in_ok-entry.entry c.in_ok-entry.receipt (change_op c.args.change) c.in_ok-plan.plan.next
    c.facts.ensures turn c.in_ok-plan.ensures.planned.space
    (change_op-is_change c.args.change) memory_is c.in_ok-plan.ensures.planned.next
    c.in_ok-entry.ensures.entry_is c.in_ok-entry.ensures.receipt_is place)
