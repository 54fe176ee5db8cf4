-- The receipts of logs, one by one.
use Rattle.std.proofs.lemmas.Grind.{common_steps}
use Rattle.std.proofs.Common.{ℕ, ◌≡◌, ◌<◌, ◌+◌, Option, Some, None, List, [], ◌∷◌, ◌++◌, length, get_or, drop, refl}
use Rattle.std.proofs.Common.{arith}
use Rattle.std.proofs.lemmas.List.{append_assoc, drop_more, length-append}
use Rattle.op_book.specs.declared.entry.SessionLog.{SessionLog}
use Rattle.op_book.specs.Operations.{PlainReceipt}
use Rattle.log_audit.specs.Matching.{LoggedReceipt, logged_from, logged_after}

pub length-logged_from : (number session index : ℕ) (earlier : Option PlainReceipt) (receipts : List PlainReceipt)
    → length (logged_from number session index earlier receipts) ≡ length receipts
length-logged_from number session index earlier [] = refl
length-logged_from number session index earlier (receipt ∷ receipts) =
    grind (arith, common_steps, length-logged_from (number + 1) session (index + 1) (Some receipt) receipts)

pub logged_more : (logs : List SessionLog) (i : ℕ) (log : SessionLog) (items more whole : List LoggedReceipt)
    → i < length logs → log ≡ get_or logs i log
    → more ≡ items ++ logged_from (length items) log.session 0 None log.receipts
    → items ++ logged_after (length items) (drop i logs) ≡ whole
    → more ++ logged_after (length more) (drop (i + 1) logs) ≡ whole
logged_more logs i log items more whole h is added so_far =
    grind (arith, common_steps, append_assoc, drop_more, length-append, length-logged_from)
