-- The journal and the tree with an addition more.
use Rattle.std.proofs.lemmas.Grind.{common_steps}
use Rattle.std.proofs.Common.{◌≡◌, [], ◌∷◌, ◌++◌, length, refl, sym, ap, ◌∙◌, subst, arith}
use Rattle.std.specs.Arc.{arc_value}
use Rattle.profile_rows.specs.Aggregate.{aggregates_of}
use Rattle.call_tree.specs.Plans.{HasAdded}
use Rattle.call_tree.specs.State.{TreeState}
use Rattle.op_book.specs.Books.{BookState, change_told, entry_after}
use Rattle.op_book.specs.Ledgers.{LedgerState}
use Rattle.op_book.specs.Operations.{PlainEntry, add, operations_of, profile_after}
use Rattle.op_book.proofs.EntryLaws.{operations_of-push, profile_at-le}
use Rattle.op_book.proofs.Readiness.{IsTreeAfter-added, told_after}
use Rattle.op_book.proofs.book.Book.add_rows.Goals as goal

abbrev book_of : LedgerState → TreeState → BookState
book_of ledger tree = record {
  entries = ledger.entries;
  tree = tree;
  limit = ledger.limit;
  sessions = ledger.sessions;
  width = ledger.width;
  capacity = ledger.capacity;
}

pub append-requires-clause-light : goal.append-requires-clause-light
append-requires-clause-light c = grind (arith, common_steps, profile_at-le)

pub append-requires-clause-reply : goal.append-requires-clause-reply
append-requires-clause-reply c = grind (arith, common_steps, told_after)

pub invariant_of-self-2 : goal.invariant_of-self-2
invariant_of-self-2 c =
    let batch = arc_value c.args.batch.now in
    let entries : c.reserve.new.self.entries ≡ c.self.inside.ledger.entries =
    ap (λ (l : LedgerState). l.entries) c.in_ok-reserve.ensures.same in
    let op_is : c.in_ok-entry.entry.op ≡ add batch = ap (λ (e : PlainEntry). e.op) c.in_ok-entry.ensures.entry_is in
    let operations : operations_of c.append.new.self.entries
    ≡ operations_of c.self.inside.ledger.entries ++ add batch ∷ [] =
    ap (λ (l : LedgerState). operations_of l.entries) c.append.ensures
    ∙ operations_of-push c.reserve.new.self.entries c.in_ok-entry.entry
    ∙ (λ i. operations_of (entries i) ++ op_is i ∷ []) in
    let width : c.append.new.self.width ≡ c.self.inside.ledger.width = ap (λ (l : LedgerState). l.width)
    c.append.ensures ∙ ap (λ (l : LedgerState). l.width) c.in_ok-reserve.ensures.same in
    let after = IsTreeAfter-added (book_of c.self.inside.ledger c.self.inside.grower)
    c.add.new.self batch c.self.invariant.0 c.self.invariant.1 c.aggregate_of_more_rows.ensures
    (subst (HasAdded c.self.inside.grower c.add.new.self) c.deref-2.ensures c.in_ok-add.ensures) in (
      after.width ∙ sym width,
      λ value. after.aggregate value ∙ ap (λ ops. aggregates_of (profile_after ops) value) (sym operations),
    )

pub returns : goal.returns
returns c =
    let batch = arc_value c.args.batch.now in
    let same : c.append.new.self ≡ record c.reserve.new.self {
      entries =
          c.reserve.new.self.entries ++ c.in_ok-entry.entry ∷ [];
    } = c.append.ensures in
    let entries : c.reserve.new.self.entries ≡ c.args.self.now.entries = ap (λ (l : LedgerState). l.entries)
    c.in_ok-reserve.ensures.same ∙ ap (λ (b : BookState). b.entries) c.self.view_is in
    let place : c.len-place.result ≡ length c.args.self.now.entries = c.len-place.ensures ∙ ap length entries in
    let told =
    told_after c.args.self.now.entries (add batch) c.len-place.result c.facts.ensures.journal.changes refl place in
    let entry_is : c.in_ok-entry.entry ≡ entry_after c.args.self.now.entries c.args.session c.args.turn (add batch) =
    c.in_ok-entry.ensures.entry_is
    ∙ (λ i. record { session = c.args.session; turn = c.args.turn; op = add batch; reply = (told i).reply }) in
    record {
      taken = grind (arith, common_steps);
      appended = record {
        entries = ap (λ (l : LedgerState). l.entries) same ∙ (λ i. entries i ++ entry_is i ∷ []);
        limit = ap (λ (l : LedgerState). l.limit) same ∙ ap (λ (l : LedgerState). l.limit)
            c.in_ok-reserve.ensures.same ∙ ap (λ (b : BookState). b.limit) c.self.view_is;
        sessions = ap (λ (l : LedgerState). l.sessions) same ∙ ap (λ (l : LedgerState). l.sessions)
            c.in_ok-reserve.ensures.same ∙ ap (λ (b : BookState). b.sessions) c.self.view_is;
        width = ap (λ (l : LedgerState). l.width) same ∙ ap (λ (l : LedgerState). l.width)
            c.in_ok-reserve.ensures.same ∙ ap (λ (b : BookState). b.width) c.self.view_is;
      };
      receipt_is = c.in_ok-entry.ensures.receipt_is ∙ told;
      told = c.in_ok-entry.ensures.receipt_is ∙ ap (change_told (add batch)) place;
    }
