-- What makes a book ready for a change.
use Rattle.std.proofs.lemmas.Grind.{common_steps}
use Rattle.std.proofs.Common.{arith, ◌≡◌, ◌<◌, ℕ, true, List, ◌++◌, length, sym, refl}
use Rattle.profile_rows.specs.declared.weighted_stacks.WeightedStack.{WeightedStack}
use Rattle.profile_rows.specs.Values.{BatchState}
use Rattle.profile_rows.specs.Aggregate.{aggregate_of, aggregates_of, with_rows}
use Rattle.call_tree.specs.Plans.{HasAdded}
use Rattle.call_tree.specs.State.{TreeState, weights_of}
use Rattle.op_book.specs.Books.{BookState, HasSpaceFor, HasTurn, IsBook, IsReady, IsTreeAfter, change_told}
use Rattle.op_book.specs.Books.{receipt_after}
use Rattle.op_book.specs.Runs.{AreChanges}
use Rattle.op_book.specs.Changes.{change_op}
use Rattle.op_book.specs.declared.book.changing.Change.{Change}
use Rattle.op_book.specs.declared.book.changing.Change.TheVariants as change
use Rattle.op_book.specs.Operations.{PlainEntry, PlainOp, PlainReceipt, add, is_change, operations_of, placed}
use Rattle.op_book.specs.Operations.{profile_after}
use Rattle.op_book.proofs.EntryLaws.{plain_answer-change, profile_at-push}

pub change_op-is_change : (change : Change) → is_change (change_op change) ≡ true
change_op-is_change (change.Add batch) = refl
change_op-is_change change.Reset = refl

-- the answer to a change is its place, which is what its session is told
pub told_after : (entries : List PlainEntry) (op : PlainOp) (place : ℕ)
    → AreChanges entries → is_change op ≡ true → place ≡ length entries
    → change_told op place ≡ receipt_after entries op
told_after entries op place changes change place_is = grind (arith, common_steps, plain_answer-change)

-- the book as it was, but for the nodes of its tree and its memory
pub IsReady-made : (book : BookState) (tree : TreeState) (capacity session turn place : ℕ)
    (entry : PlainEntry) (receipt : PlainReceipt) (op : PlainOp) (next : TreeState) → IsBook book
    → HasTurn book.entries book.limit book.sessions session turn
    → HasSpaceFor book op → is_change op ≡ true → length book.entries < capacity → IsTreeAfter book op next
    → entry ≡ record { session = session; turn = turn; op = op; reply = placed place }
    → receipt ≡ change_told op place → place ≡ length book.entries
    → IsReady (record {
      before = record book { tree = tree; capacity = capacity };
      session = entry.session;
      turn = entry.turn;
      op = entry.op;
      next = next;
    }) entry receipt
IsReady-made book tree capacity
    session turn place entry receipt op next kept turn_is space change memory after entry_is receipt_is place_is =
    let answer = plain_answer-change book.entries op kept.journal.changes change in
    rw (entry_is, receipt_is, place_is) (record {
      taken = record { turn_is = turn_is; width = space.width; fits = space.fits };
      change = change;
      memory = memory;
      entry_is = λ i. record { session = session; turn = turn; op = op; reply = sym answer i };
      receipt_is = λ i. record { op = op; reply = sym answer i; at = length book.entries };
      told_is = refl;
      tree = record { width = after.width; aggregate = after.aggregate };
    })

-- the tree with the rows of a batch is the aggregate of what then counts
pub IsTreeAfter-added : (book : BookState) (next : TreeState) (batch : BatchState) → book.tree.width ≡ book.width
    → ((value : ℕ) → weights_of book.tree value ≡ aggregates_of (profile_after (operations_of book.entries)) value)
    → ((rows more : List WeightedStack) → aggregate_of (rows ++ more) ≡ with_rows (aggregate_of rows) more)
    → HasAdded book.tree next batch
    → IsTreeAfter book (add batch) next
IsTreeAfter-added book next batch wide held more added = grind (arith, common_steps, profile_at-push)
