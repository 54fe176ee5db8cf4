-- The audited logs tell of all that the journal has.
use Rattle.std.proofs.Common.{◌≡◌, List, [], cond, ap, sym, ◌∙◌, arith, rules}
use Rattle.std.proofs.Math.Dec.{leb-zero}
use Rattle.std.specs.List.{flat_map}
use Rattle.profile_store.specs.Aggregate.{aggregate_of}
use Rattle.profile_store.specs.Books.{IsReplay}
use Rattle.profile_store.specs.Logs.{place_told, rows_from, rows_logged}
use Rattle.profile_store.specs.Operations.{PlainOp, PlainReceipt, counting_from, operations_of, rows_added}
use Rattle.profile_store.specs.State.{TreeState, weights_of}
use Rattle.profile_store.specs.Values.{Row, rows_at}
use Rattle.profile_store.specs.declared.SessionLog.{SessionLog}
use Rattle.store_window.specs.Added.{rows_added_by}
use Rattle.store_window.proofs.closed.ClosedWindow.audited_tree.Goals as goal

-- from the first place on every addition counts
all_counts : (logs : List SessionLog) → rows_logged 0 logs ≡ rows_added_by logs
all_counts logs =
    let all : rows_from 0 ≡ (λ (receipt : PlainReceipt). rows_added receipt.op) =
    λ i receipt. cond (leb-zero (place_told receipt.reply) i) (rows_added receipt.op) [] in
    ap (λ (rows : PlainReceipt → List Row). flat_map (λ (log : SessionLog). flat_map rows log.receipts) logs) all

pub returns-clause-wide : goal.returns-clause-wide
returns-clause-wide c =
    let wide = ap (λ (tree : TreeState). tree.width) c.tree.ensures.tree in
    omega (arith, wide, c.tree.ensures.kept.wide, c.tree.ensures.kept.one)

pub returns-clause-sums : goal.returns-clause-sums
returns-clause-sums c value =
    let operations : List PlainOp = operations_of c.args.self.now.journal.entries in
    let begins : counting_from operations ≡ 0 = search rules in
    let logs : List SessionLog = c.args.self.now.logs.items in
    let told : rows_logged (counting_from operations) logs ≡ rows_added_by logs =
    ap (λ n. rows_logged n logs) begins ∙ all_counts logs in
    let first = rw c.as_slice.ensures.value at c.in_ok-audit.ensures in
    let audited = first.audited in
    let sums = c.logs_add_up.ensures logs c.in_ok-audit.field-0 operations
    audited.each_receipt_once audited.legal audited.changes value in
    let replay : IsReplay c.args.self.now.journal.entries c.args.self.now.journal.tree = c.tree.ensures.kept.replay in
    ap (λ (rows : List Row). aggregate_of (rows_at value rows)) (sym told)
    ∙ sums ∙ sym (replay.aggregate value) ∙ ap (λ (tree : TreeState). weights_of tree value) (sym c.tree.ensures.tree)
