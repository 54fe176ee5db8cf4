-- When the logs of sessions match a journal, what refuses them first, and the run of a match.
use Rattle.std.specs.Prelude.{ℕ, ◌≡◌, ◌≢◌, ◌<◌, ◌≤◌, ◌+◌, Option, Some, None, IfSome, true, false, List, [], ◌∷◌, ◌++◌}
use Rattle.std.specs.Prelude.{All, AllPairs, Any, length, map, take, IsPermutation, IsSorted}
use Rattle.std.specs.List.{filter}
use Rattle.std.specs.Ordering.{nat_cmp, ordering_then}
use Rattle.std.specs.declared.cmp.Ordering.{Ordering}
use Rattle.op_book.specs.Books.{JournalState}
use Rattle.op_book.specs.Operations.{PlainOp, PlainReceipt, PlainReply, add, reset, ask, is_change, operations_of}
use Rattle.op_book.specs.Operations.{plain_answer}
use Rattle.op_book.specs.Receipts.{HasEntry, Precedes, key_of}
use Rattle.op_book.specs.Runs.{IsLegal}
use Rattle.op_book.specs.declared.entry.SessionLog.{SessionLog}
use Rattle.log_audit.specs.declared.fault.AuditFault.{AuditFault}
use Rattle.log_audit.specs.declared.fault.AuditFault.TheVariants.{TwoLogs, Stranger, Order, Missing, WrongAnswer}
use Rattle.log_audit.specs.declared.fault.AuditFault.TheVariants.{NoMemory}

-- a receipt in the logs: its number among all receipts, the session of its log, its place there, and the receipt before
-- it there
pub record LoggedReceipt : Type 0 where
  pub number : ℕ
  pub session : ℕ
  pub index : ℕ
  pub earlier : Option PlainReceipt
  pub receipt : PlainReceipt

-- the receipts of a log from a place on
abbrev pub logged_from : ℕ → ℕ → ℕ → Option PlainReceipt → List PlainReceipt → List LoggedReceipt
logged_from number session index earlier [] = []
logged_from number session index earlier (receipt ∷ later) =
    (record { number = number; session = session; index = index; earlier = earlier; receipt = receipt })
    ∷ logged_from (number + 1) session (index + 1) (Some receipt) later

-- the receipts of logs, log after log, the first of this number
abbrev pub logged_after : ℕ → List SessionLog → List LoggedReceipt
logged_after number [] = []
logged_after number (log ∷ logs) =
    logged_from number log.session 0 None log.receipts ++ logged_after (number + length log.receipts) logs

-- the receipts of all logs, log after log, each log in its own order
abbrev pub logged : List SessionLog → List LoggedReceipt
logged logs = logged_after 0 logs

-- ---- when logs match a journal

-- no session has two logs
abbrev pub HasOneLogEach : List SessionLog → Type 0
HasOneLogEach logs = AllPairs (λ log other. log.session ≢ other.session) logs

-- a change has its entry; a report is over entries that there are, and by one of the journal's values
abbrev pub IsOfJournal : JournalState → ℕ → PlainReceipt → PlainOp → Type 0
IsOfJournal journal session receipt (add batch) = HasEntry journal.entries session receipt
IsOfJournal journal session receipt reset = HasEntry journal.entries session receipt
IsOfJournal journal session receipt (ask query) =
    (receipt.at ≤ length journal.entries) × (query.value < journal.width)

-- the receipt is of one of the journal's sessions, and of the journal
abbrev pub IsKnown : JournalState → LoggedReceipt → Type 0
IsKnown journal one = (one.session < journal.sessions) × IsOfJournal journal one.session one.receipt one.receipt.op

-- the receipt may stand after the one before it in its log
abbrev pub IsInOrder : LoggedReceipt → Type 0
IsInOrder one = IfSome one.earlier (λ earlier. Precedes earlier one.receipt)

-- a change at this place is among the receipts
abbrev pub IsReceived : List LoggedReceipt → ℕ → Type 0
IsReceived all place = Any (λ one. (is_change one.receipt.op ≡ true) × (one.receipt.at ≡ place)) all

-- a report's reply is the plain answer after as many changes of the journal as its place says
abbrev pub IsRight : JournalState → LoggedReceipt → Type 0
IsRight journal one = is_change one.receipt.op ≡ false
    → one.receipt.reply ≡ plain_answer (operations_of (take one.receipt.at journal.entries)) one.receipt.op

-- the logs match the journal
pub record LogsMatch (journal : JournalState) (logs : List SessionLog) : Type 0 where
  pub one_log_each : HasOneLogEach logs
  pub known : All (IsKnown journal) (logged logs)
  pub in_order : All IsInOrder (logged logs)
  pub received : (place : ℕ) → place < length journal.entries → IsReceived (logged logs) place
  pub right : All (IsRight journal) (logged logs)

-- ---- what refuses logs first

-- the session of the first log that has an earlier one of its session
pub record IsSecondLog (logs : List SessionLog) (session : ℕ) : Type 0 where
  pub before : List SessionLog
  pub log : SessionLog
  pub after : List SessionLog
  pub split : logs ≡ before ++ log ∷ after
  pub one_each : HasOneLogEach before
  pub again : Any (λ earlier. earlier.session ≡ log.session) before
  pub session_is : session ≡ log.session

-- the first receipt without a property is of this session, at this place of its log
pub record IsFirstWithout (Has : LoggedReceipt → Type 0) (all : List LoggedReceipt) (session index : ℕ)
    : Type 0 where
  pub before : List LoggedReceipt
  pub one : LoggedReceipt
  pub after : List LoggedReceipt
  pub split : all ≡ before ++ one ∷ after
  pub each : All Has before
  pub without : Has one → ⊥
  pub session_is : session ≡ one.session
  pub index_is : index ≡ one.index

-- the first entry without a receipt is at this place
pub record IsFirstMissing (count : ℕ) (all : List LoggedReceipt) (place : ℕ) : Type 0 where
  pub within : place < count
  pub earlier : (other : ℕ) → other < place → IsReceived all other
  pub missing : IsReceived all place → ⊥

-- the first fault: two logs of a session come before strangers, these before the order of a log, this before missing
-- receipts, and wrong answers are last
abbrev pub IsFirstAuditFault : JournalState → List SessionLog → AuditFault → Type 0
IsFirstAuditFault journal logs (TwoLogs session) = IsSecondLog logs session
IsFirstAuditFault journal logs (Stranger session index) = HasOneLogEach logs
    × IsFirstWithout (IsKnown journal) (logged logs) session index
IsFirstAuditFault journal logs (Order session index) = HasOneLogEach logs × All (IsKnown journal) (logged logs)
    × IsFirstWithout IsInOrder (logged logs) session index
IsFirstAuditFault journal logs (Missing entry) = HasOneLogEach logs × All (IsKnown journal) (logged logs)
    × All IsInOrder (logged logs) × IsFirstMissing (length journal.entries) (logged logs) entry
IsFirstAuditFault journal logs (WrongAnswer session index) = HasOneLogEach logs × All (IsKnown journal) (logged logs)
    × All IsInOrder (logged logs)
    × ((place : ℕ) → place < length journal.entries → IsReceived (logged logs) place)
    × IsFirstWithout (IsRight journal) (logged logs) session index
IsFirstAuditFault journal logs NoMemory = Unit {0}

-- ---- the run of a match

-- an operation of a run with its reply, and where its receipt stands
pub record PlainStep : Type 0 where
  pub session : ℕ
  pub index : ℕ
  pub op : PlainOp
  pub reply : PlainReply

abbrev pub step_of : LoggedReceipt → PlainStep
step_of one =
    record { session = one.session; index = one.index; op = one.receipt.op; reply = one.receipt.reply }

-- the steps that all receipts make
abbrev pub steps_in : List SessionLog → List PlainStep
steps_in logs = map step_of (logged logs)

-- the order of a run: by key, then by session, then by the place in the log
abbrev pub run_cmp : LoggedReceipt → LoggedReceipt → Ordering
run_cmp one other = ordering_then (nat_cmp (key_of one.receipt) (key_of other.receipt))
    (ordering_then (nat_cmp one.session other.session) (nat_cmp one.index other.index))

-- the receipts of logs, of which each session has one, each receipt is of the journal, and each log is in order
pub record AreKnown (journal : JournalState) (logs : List SessionLog) (all : List LoggedReceipt) : Type 0 where
  pub receipts : all ≡ logged logs
  pub one_log_each : HasOneLogEach logs
  pub known : All (IsKnown journal) (logged logs)
  pub in_order : All IsInOrder (logged logs)

-- the receipts of logs in the order of a run: each session has one log, each receipt is of the journal, and each log is
-- in order
pub record AreOrdered (journal : JournalState) (logs : List SessionLog) (ordered : List LoggedReceipt) : Type 0 where
  pub one_log_each : HasOneLogEach logs
  pub known : All (IsKnown journal) (logged logs)
  pub in_order : All IsInOrder (logged logs)
  pub all : IsPermutation (logged logs) ordered
  pub sorted : IsSorted run_cmp ordered

-- the steps of all receipts in the order of a run
pub record IsRunOf (logs : List SessionLog) (steps : List PlainStep) : Type 0 where
  pub ordered : List LoggedReceipt
  pub all : IsPermutation (logged logs) ordered
  pub sorted : IsSorted run_cmp ordered
  pub steps_are : steps ≡ map step_of ordered

-- the run of logs that match a journal: each of its replies is the plain answer after the steps before it, its changes
-- are the journal's, and it has each receipt once, in each session's own order
pub record IsAuditedRun (journal : JournalState) (logs : List SessionLog) (run : List PlainStep) : Type 0 where
  pub matched : LogsMatch journal logs
  pub run_is : IsRunOf logs run
  pub legal : IsLegal (λ (step : PlainStep). step.op) (λ (step : PlainStep). step.reply) run
  pub changes : filter is_change (map (λ (step : PlainStep). step.op) run) ≡ operations_of journal.entries
  pub each_receipt_once : IsPermutation (steps_in logs) run
  pub own_order : AllPairs (λ (earlier : PlainStep) (later : PlainStep). earlier.session ≡ later.session
      → earlier.index < later.index) run
