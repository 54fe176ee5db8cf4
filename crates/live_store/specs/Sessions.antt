-- What a session's log and the changes that it knows of have in common.
use Rattle.std.specs.Prelude.{ℕ, ◌≡◌, ◌≤◌, ◌*◌, ◌==◌, ◌++◌, ◌∷◌, [], List, All, AllPairs, MatchBool, length, map, take}
use Rattle.std.specs.List.{filter}
use mathlib.Core.List.{IsPrefix}
use Rattle.op_book.specs.Books.{entry_after}
use Rattle.op_book.specs.Receipts.{HasEntry, Precedes, key_of}
use Rattle.op_book.specs.Operations.{PlainEntry, PlainOp, PlainReceipt, is_change, operations_of, placed, plain_answer}
use Rattle.op_book.specs.Runs.{turns_of}

-- the changes of a log, in order
abbrev pub changes_of : List PlainReceipt → List PlainOp
changes_of log = filter is_change (map (λ (receipt : PlainReceipt). receipt.op) log)

-- the changes that entries have of a session, in order
abbrev pub changes_by : ℕ → List PlainEntry → List PlainOp
changes_by session entries = operations_of (filter (λ (entry : PlainEntry). entry.session == session) entries)

-- a change stands at its place among the changes that are known, and a report's reply is the plain answer after the
-- first of them
abbrev pub IsSound : ℕ → List PlainEntry → PlainReceipt → Type 0
IsSound session seen receipt = MatchBool (is_change receipt.op) (HasEntry seen session receipt)
    ((receipt.at ≤ length seen)
    × (receipt.reply ≡ plain_answer (operations_of (take receipt.at seen)) receipt.op))

-- the changes that a session knows of bear out its log: its own changes are a prefix of those of its number, each
-- change stands at its place, each report is the plain answer at its place, and the keys rise
pub record IsBorneOut (session : ℕ) (log : List PlainReceipt) (seen : List PlainEntry) : Type 0 where
  pub own : IsPrefix (changes_of log) (changes_by session seen)
  pub each : All (IsSound session seen) log
  pub rise : AllPairs Precedes log
  pub below : All (λ (receipt : PlainReceipt). key_of receipt ≤ 2 * length seen) log

-- a session's change was placed after all that was known, and is the last of what is known now
pub record IsPlaced (known : List PlainEntry) (session turn : ℕ) (op : PlainOp) (place : ℕ)
    (seen : List PlainEntry) : Type 0 where
  pub before : List PlainEntry
  pub begins : IsPrefix known before
  pub turn_is : turn ≡ turns_of before session
  pub place_is : place ≡ length before
  pub reply_is : plain_answer (operations_of before) op ≡ placed place
  pub seen_is : seen ≡ before ++ entry_after before session turn op ∷ []
