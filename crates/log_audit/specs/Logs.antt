-- What logs tell of the rows that count.
use Rattle.std.specs.Prelude.{ℕ, List, [], cond, nat_le}
use Rattle.std.specs.List.{flat_map}
use Rattle.profile_rows.specs.Values.{Row}
use Rattle.op_book.specs.Operations.{PlainReceipt, PlainReply, placed, answered, rows_added}
use Rattle.op_book.specs.declared.entry.SessionLog.{SessionLog}

-- the place that a change was told
abbrev pub place_told : PlainReply → ℕ
place_told (placed place) = place
place_told (answered answer) = 0

-- the rows that a receipt tells of, where its change stands at this place or after it
abbrev pub rows_from : ℕ → PlainReceipt → List Row
rows_from place receipt = cond (nat_le place (place_told receipt.reply)) (rows_added receipt.op) []

-- the rows of all such receipts, log after log
abbrev pub rows_logged : ℕ → List SessionLog → List Row
rows_logged place logs = flat_map (λ (log : SessionLog). flat_map (rows_from place) log.receipts) logs
