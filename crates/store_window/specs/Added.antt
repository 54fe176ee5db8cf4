-- What the sessions of a window add.
use Rattle.std.specs.Prelude.{List}
use Rattle.std.specs.List.{flat_map}
use Rattle.profile_store.specs.Operations.{PlainReceipt, rows_added}
use Rattle.profile_store.specs.Values.{Row}
use Rattle.profile_store.specs.declared.SessionLog.{SessionLog}

-- the rows that logs tell of as added, log after log
abbrev pub rows_added_by : List SessionLog → List Row
rows_added_by logs =
    flat_map (λ (log : SessionLog). flat_map (λ (receipt : PlainReceipt). rows_added receipt.op) log.receipts) logs
