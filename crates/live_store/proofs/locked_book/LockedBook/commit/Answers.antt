use Rattle.std.proofs.lemmas.Grind.{common_steps}
use Rattle.std.proofs.Common.{◌≡◌, ℕ, List, [], ◌∷◌, ◌++◌, refl, sym, ap, ◌∙◌, subst, arith}
use mathlib.Core.List.{IsPrefix}
use Rattle.shown_versions.proofs.Fronts.{prefix_self}
use Rattle.shown_versions.specs.Histories.{entry_made}
use Rattle.op_book.specs.Books.{IsAppended, change_told, entry_after}
use Rattle.op_book.specs.Operations.{PlainEntry, PlainReceipt, placed}
use Rattle.op_book.specs.Runs.{turns_of}
use Rattle.live_store.specs.Changes.{HasChanged, session_of}
use Rattle.live_store.specs.Stores.{changes_told}
use Rattle.live_store.proofs.locked_book.LockedBook.commit.Goals as goal

pub returns-clause-event : goal.returns-clause-event
returns-clause-event g c =
    let entries = c.args.self.now.book.entries in
    let n = c.args.log.now.number in
    let log = c.args.log.now.receipts.items in
    let turn = changes_told log in
    let next = c.requires.next in
    let op = c.args.ready.op in
    let settled = c.settle-receipt.ensures.made in
    let place_is = c.keep_change-place.ensures.placed ∙ ap (λ (r : PlainReceipt). r.at) settled.told in
    let reply = ap (λ (r : PlainReceipt). r.reply) (sym settled.receipt_is ∙ settled.told) in
    let made : entry_made c.args.ready ≡ entry_after entries n turn op =
    λ i. entry_after (next.before i).entries (next.mine i) (next.taken i) op in
    let began = subst (λ (l : List PlainEntry). IsPrefix l entries) (sym next.known) (prefix_self entries) in
    let seen = c.front-2.ensures ∙ (c.add.ensures
    ∙ (ap (λ l. l ++ entry_made c.args.ready ∷ []) c.args.self.now.whole ∙ ap (λ e. entries ++ e ∷ []) made)) in
    let changed : HasChanged (session_of c.args.log.now c.args.front.now) op c.keep_change-place.result c.front-3.result
    (session_of c.keep_change-place.new.self c.front-2.result) = record {
      number = c.keep_change-place.ensures.kept.number;
      seen = subst (λ (l : List PlainEntry). IsPrefix l c.front-2.result) (sym next.known)
          (subst (IsPrefix entries) (sym seen) (entry_after entries n turn op ∷ [], refl));
      placed = record {
        before = entries;
        begins = began;
        turn_is = sym next.taken ∙ (next.turn_is ∙ ap (turns_of entries) next.mine);
        place_is = place_is;
        reply_is = reply ∙ ap placed (sym place_is);
        seen_is = seen;
      };
      told_is = c.front-3.ensures ∙ sym c.front-2.ensures;
      log = c.keep_change-place.ensures.kept.log
          ∙ ap (λ r. log ++ r ∷ []) (settled.told ∙ ap (change_told op) (sym place_is));
    } in
    record {
      changed = changed;
      appended = subst (λ (session : ℕ). IsAppended c.args.self.now.book session turn op c.settle-receipt.new.self)
          next.mine (subst (λ (at : ℕ). IsAppended c.args.self.now.book c.args.ready.session at op
          c.settle-receipt.new.self) next.taken settled.appended);
      whole = grind (arith, common_steps);
    }
