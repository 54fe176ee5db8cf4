-- What counts after one receipt more, and what it weighs.
use Rattle.std.proofs.lemmas.Grind.{common_steps}
use Rattle.std.proofs.Common.{ℕ, ◌≡◌, ◌<◌, ◌+◌, ◌^◌, ◌++◌, ◌∷◌, [], List, length, get_or, take, ap, subst, ◌∙◌}
use Rattle.std.proofs.Common.{arith}
use Rattle.profile_rows.specs.Rows.{total_of}
use Rattle.profile_rows.specs.Values.{BatchState, rows_at}
use Rattle.flame_report.specs.declared.query.Query.{Query}
use Rattle.log_audit.specs.Matching.{LoggedReceipt}
use Rattle.op_book.specs.Operations.{PlainOp, add, reset, ask, profile_after}
use Rattle.log_audit.specs.Replays.{AreLight, ops_in, total_after}
use Rattle.op_book.proofs.EntryLaws.{profile_after-reset, total_at-push}
use Rattle.log_audit.proofs.Replaying.{ops_in-more, take-ops_in}

ops_in-next : (all : List LoggedReceipt) (at : ℕ) (one : LoggedReceipt) (op : PlainOp)
    → at < length all → one ≡ get_or all at one → one.receipt.op ≡ op
    → ops_in (take (at + 1) all) ≡ ops_in (take at all) ++ op ∷ []
ops_in-next all at one op lt is op_is = ops_in-more all at one lt is
    ∙ ap (λ (o : PlainOp). ops_in (take at all) ++ o ∷ []) op_is

-- an addition's rows count too
pub total_after-add : (all : List LoggedReceipt) (at : ℕ) (one : LoggedReceipt) (batch : BatchState)
    → at < length all → one ≡ get_or all at one → one.receipt.op ≡ add batch
    → (value : ℕ) → total_after all (at + 1) value ≡ total_after all at value + total_of (rows_at value batch.rows)
total_after-add all at one batch lt is op value = grind (arith, common_steps, total_at-push, ops_in-next)

-- a report leaves what counts
pub total_after-ask : (all : List LoggedReceipt) (at : ℕ) (one : LoggedReceipt) (query : Query)
    → at < length all → one ≡ get_or all at one → one.receipt.op ≡ ask query
    → (value : ℕ) → total_after all (at + 1) value ≡ total_after all at value
total_after-ask all at one query lt is op value = grind (arith, common_steps, total_at-push, ops_in-next)

-- nothing counts after a reset
pub profile_after-resets : (all : List LoggedReceipt) (at : ℕ) (one : LoggedReceipt)
    → at < length all → one ≡ get_or all at one → one.receipt.op ≡ reset
    → profile_after (ops_in (take (at + 1) all)) ≡ []
profile_after-resets all at one lt is op = ap profile_after (ops_in-next all at one reset lt is op)
    ∙ profile_after-reset (ops_in (take at all))

-- what counts keeps the limit
pub total_after-light : (all : List LoggedReceipt)
    → AreLight (ops_in all) → (count value : ℕ) → total_after all count value < 2 ^ 63
total_after-light all light count value =
    subst (λ (ops : List PlainOp). total_of (rows_at value (profile_after ops)) < 2 ^ 63)
    (take-ops_in all count) (light count value)
