-- What contracts see of a book and of a journal, and what both keep.
use Rattle.std.specs.Prelude.{ℕ, ◌≡◌, ◌≢◌, ◌<◌, ◌≤◌, ◌+◌, ◌^◌, true, List, [], ◌∷◌, ◌++◌, length}
use Rattle.profile_rows.specs.Aggregate.{aggregates_of}
use Rattle.profile_rows.specs.Limits.{most_values}
use Rattle.profile_rows.specs.Rows.{total_of}
use Rattle.profile_rows.specs.Values.{rows_at, value_of}
use Rattle.call_tree.specs.State.{PlanState, TreeState, total_in, weights_of}
use Rattle.op_book.specs.Operations.{FitsWidth, MissesWidth, PlainOp, PlainEntry, PlainReceipt, is_change}
use Rattle.op_book.specs.Operations.{operations_of, placed, plain_answer, profile_after, rows_added}
use Rattle.op_book.specs.Runs.{AreChanges, AreOfSessions, AreOfWidth, AreTurnsInOrder, IsLegalRun, KeepLimit}
use Rattle.op_book.specs.Runs.{most_sessions, turns_of}
use Rattle.op_book.specs.declared.fault.BookFault.{BookFault}
use Rattle.op_book.specs.declared.fault.BookFault.TheVariants.{Session, Turn, Full, Width, Heavy, NoMemory, Version}

-- the entries in order, the tree that they made, how many entries and sessions there may be, how many values a row has,
-- and for how many entries there is memory
pub record BookState : Type 0 where
  pub entries : List PlainEntry
  pub tree : TreeState
  pub limit : ℕ
  pub sessions : ℕ
  pub width : ℕ
  pub capacity : ℕ

-- the entries of a book that was closed, the tree that they made, the number of sessions, and that of a row's values
pub record JournalState : Type 0 where
  pub entries : List PlainEntry
  pub tree : TreeState
  pub sessions : ℕ
  pub width : ℕ

-- the tree is the aggregate of the additions that count, by each value, and each reply is what the plain profile gives
-- after the operations before it
pub record IsReplay (entries : List PlainEntry) (tree : TreeState) : Type 0 where
  pub aggregate : (value : ℕ)
      → weights_of tree value ≡ aggregates_of (profile_after (operations_of entries)) value
  pub legal : IsLegalRun entries

-- what every journal keeps: it is the replay of its entries, fewer than 2^32, which are changes of its sessions, 1 to
-- 64, whose turns are in order, and of its width, 1 to 4, which the tree has too; they keep the limit of weights at
-- each time
pub record IsJournal (journal : JournalState) : Type 0 where
  pub replay : IsReplay journal.entries journal.tree
  pub changes : AreChanges journal.entries
  pub turns : AreTurnsInOrder journal.entries
  pub known : AreOfSessions journal.sessions journal.entries
  pub fitted : AreOfWidth journal.width journal.entries
  pub wide : journal.tree.width ≡ journal.width
  pub one : 0 < journal.width
  pub four : journal.width ≤ most_values
  pub light : KeepLimit journal.entries
  pub small : length journal.entries < 2 ^ 32
  pub some : 0 < journal.sessions
  pub few : journal.sessions ≤ most_sessions

-- the journal that a book has so far
abbrev pub journal_of : BookState → JournalState
journal_of book =
    record { entries = book.entries; tree = book.tree; sessions = book.sessions; width = book.width }

-- what every book keeps: what its journal does, and the limit of entries
pub record IsBook (book : BookState) : Type 0 where
  pub journal : IsJournal (journal_of book)
  pub count : length book.entries ≤ book.limit

-- a new book: it has no entries, and this limit, so many sessions and values
pub record IsNewBook (limit sessions width : ℕ) (book : BookState) : Type 0 where
  pub entries : book.entries ≡ []
  pub limit_is : book.limit ≡ limit
  pub sessions_are : book.sessions ≡ sessions
  pub width_is : book.width ≡ width
  pub kept : IsBook book

-- the entry that an operation makes after those of a book
abbrev pub entry_after : List PlainEntry → ℕ → ℕ → PlainOp → PlainEntry
entry_after entries session turn op =
    record { session = session; turn = turn; op = op; reply = plain_answer (operations_of entries) op }

-- what a session is told of an operation after the entries of a book
abbrev pub receipt_after : List PlainEntry → PlainOp → PlainReceipt
receipt_after entries op = record { op = op; reply = plain_answer (operations_of entries) op; at = length entries }

-- what is told of a change that is made after so many others
abbrev pub change_told : PlainOp → ℕ → PlainReceipt
change_told op place = record { op = op; reply = placed place; at = place }

-- the book after one operation: exactly one entry more
pub record IsAppended (before : BookState) (session turn : ℕ) (op : PlainOp) (after : BookState) : Type 0 where
  pub entries : after.entries ≡ before.entries ++ entry_after before.entries session turn op ∷ []
  pub limit : after.limit ≡ before.limit
  pub sessions : after.sessions ≡ before.sessions
  pub width : after.width ≡ before.width

-- the book as it was: its entries, its limits, and the weights of each stack
pub record IsSameBook (before after : BookState) : Type 0 where
  pub entries : after.entries ≡ before.entries
  pub weights : (value : ℕ) → weights_of after.tree value ≡ weights_of before.tree value
  pub limit : after.limit ≡ before.limit
  pub sessions : after.sessions ≡ before.sessions
  pub width : after.width ≡ before.width

-- a session of so many may take its next turn, and there is room for its entry
pub record HasTurn (entries : List PlainEntry) (limit sessions session turn : ℕ) : Type 0 where
  pub known : session < sessions
  pub next : turn ≡ turns_of entries session
  pub room : length entries < limit

-- the first cause to refuse a turn: no such session before another turn than the next, and that before a full journal
abbrev pub IsTurnFault : List PlainEntry → ℕ → ℕ → ℕ → ℕ → BookFault → Type 0
IsTurnFault entries limit sessions session turn Session = sessions ≤ session
IsTurnFault entries limit sessions session turn (Turn held) = (session < sessions)
    × (held ≡ turns_of entries session)
    × (turn ≢ held)
IsTurnFault entries limit sessions session turn (Full held) = (session < sessions)
    × (turn ≡ turns_of entries session)
    × (held ≡ length entries) × (limit ≤ held)
IsTurnFault entries limit sessions session turn (Width held) = ⊥
IsTurnFault entries limit sessions session turn (Heavy value held) = ⊥
IsTurnFault entries limit sessions session turn NoMemory = ⊥
IsTurnFault entries limit sessions session turn Version = ⊥

-- what all rows that count weigh, by a value
abbrev pub weight_so_far : BookState → ℕ → ℕ
weight_so_far book value = total_of (rows_at value (profile_after (operations_of book.entries)))

-- the rows that an operation adds keep the limit of this value
abbrev pub HasRoomFor : BookState → PlainOp → ℕ → Type 0
HasRoomFor book op value = weight_so_far book value + total_of (rows_at value (rows_added op)) < 2 ^ 63

-- nothing but `NoMemory` keeps the book from the operation
pub record IsTaken (book : BookState) (session turn : ℕ) (op : PlainOp) : Type 0 where
  pub turn_is : HasTurn book.entries book.limit book.sessions session turn
  pub width : FitsWidth book.width op
  pub fits : (value : ℕ) → HasRoomFor book op value

-- a change was made as the turn of a session: the book could take it, its entry is the journal's last, and this receipt
-- tells of it
pub record IsMade (before : BookState) (session turn : ℕ) (op : PlainOp) (after : BookState)
    (receipt : PlainReceipt) : Type 0 where
  pub taken : IsTaken before session turn op
  pub appended : IsAppended before session turn op after
  pub receipt_is : receipt ≡ receipt_after before.entries op
  pub told : receipt ≡ change_told op (length before.entries)

-- the limit of this value, the lowest such, keeps the book from the operation
pub record IsHeavyFor (book : BookState) (op : PlainOp) (value held : ℕ) : Type 0 where
  pub width : FitsWidth book.width op
  pub within : value < book.width
  pub held_is : held ≡ weight_so_far book value
  pub light : held < 2 ^ 63
  pub heavy : 2 ^ 63 ≤ held + total_of (rows_at value (rows_added op))
  pub lower : (below : ℕ) → below < value → HasRoomFor book op below

-- the book has the operation's width and room for what it adds
pub record HasSpaceFor (book : BookState) (op : PlainOp) : Type 0 where
  pub width : FitsWidth book.width op
  pub fits : (value : ℕ) → HasRoomFor book op value

-- what keeps an operation from the book, whose turn it is: another width, or the limit of a value, the lowest such;
-- `NoMemory` only where there is no other cause
abbrev pub IsSpaceFault : BookState → PlainOp → BookFault → Type 0
IsSpaceFault book op (Width held) = (held ≡ book.width) × MissesWidth book.width op
IsSpaceFault book op (Heavy value held) = IsHeavyFor book op value held
IsSpaceFault book op NoMemory = HasSpaceFor book op
IsSpaceFault book op fault = ⊥

-- the first cause to refuse an operation: those of its turn, then its width, then its weights; `NoMemory` only where
-- there is no other
abbrev pub IsFirstBookFault : BookState → ℕ → ℕ → PlainOp → BookFault → Type 0
IsFirstBookFault book session turn op (Width held) = HasTurn book.entries book.limit book.sessions session turn
    × (held ≡ book.width) × MissesWidth book.width op
IsFirstBookFault book session turn op (Heavy value held) = HasTurn book.entries book.limit book.sessions session turn
    × IsHeavyFor book op value held
IsFirstBookFault book session turn op NoMemory = IsTaken book session turn op
IsFirstBookFault book session turn op fault = IsTurnFault book.entries book.limit book.sessions session turn fault

-- a book refused an operation as the turn of a session: it is as it was, and the fault is the first cause
pub record IsChangeRefused (before : BookState) (session turn : ℕ) (op : PlainOp) (after : BookState)
    (fault : BookFault) : Type 0 where
  pub unchanged : IsSameBook before after
  pub first_fault : IsFirstBookFault before session turn op fault

-- a change that a book is ready for: the book as it was made ready, the session's turn and the operation, and the tree
-- after it
pub record ReadyState : Type 0 where
  pub before : BookState
  pub session : ℕ
  pub turn : ℕ
  pub op : PlainOp
  pub next : TreeState

-- the tree after one operation more: the aggregate of the additions that then count
pub record IsTreeAfter (book : BookState) (op : PlainOp) (next : TreeState) : Type 0 where
  pub width : next.width ≡ book.width
  pub aggregate : (value : ℕ)
      → weights_of next value ≡ aggregates_of (profile_after (operations_of book.entries ++ op ∷ [])) value

-- what is kept for a change: it may be taken, there is memory for its entry, and its entry, its receipt and its tree
-- are those that it will have
pub record IsReady (ready : ReadyState) (entry : PlainEntry) (receipt : PlainReceipt) : Type 0 where
  pub taken : IsTaken ready.before ready.session ready.turn ready.op
  pub change : is_change ready.op ≡ true
  pub memory : length ready.before.entries < ready.before.capacity
  pub entry_is : entry ≡ entry_after ready.before.entries ready.session ready.turn ready.op
  pub receipt_is : receipt ≡ receipt_after ready.before.entries ready.op
  pub told_is : receipt ≡ change_told ready.op (length ready.before.entries)
  pub tree : IsTreeAfter ready.before ready.op ready.next

-- a book was prepared for a change as the turn of a session, and is this one now, which holds what it held: nothing
-- keeps it from the change
pub record IsPrepared (before : BookState) (session turn : ℕ) (op : PlainOp) (after : BookState)
    (ready : ReadyState) : Type 0 where
  pub taken : IsTaken before session turn op
  pub unchanged : IsSameBook before after
  pub now : ready.before ≡ after
  pub session_is : ready.session ≡ session
  pub turn_is : ready.turn ≡ turn
  pub op_is : ready.op ≡ op
  pub tree : IsTreeAfter before op ready.next

-- the next tree of a book that was planned for an operation and has this tree now: nothing but its turn keeps the book
-- from the operation
pub record IsPlanned (before : BookState) (op : PlainOp) (tree : TreeState) (plan : PlanState) : Type 0 where
  pub before_is : plan.before ≡ tree
  pub next : IsTreeAfter before op plan.next
  pub space : HasSpaceFor before op

-- the entry and the receipt of a change at this place
pub record IsJournalled (session turn : ℕ) (op : PlainOp) (place : ℕ) (entry : PlainEntry) (receipt : PlainReceipt)
    : Type 0 where
  pub entry_is : entry ≡ record { session = session; turn = turn; op = op; reply = placed place }
  pub receipt_is : receipt ≡ change_told op place

-- what all rows that count weigh, by each value, which is also what the tree weighs
pub record AreTotals (book : BookState) (totals : List ℕ) : Type 0 where
  pub width : length totals ≡ book.width
  pub rows : (value : ℕ) → value_of value totals ≡ weight_so_far book value
  pub tree : (value : ℕ) → value_of value totals ≡ total_in (weights_of book.tree value)
  pub fits : (value : ℕ) → weight_so_far book value < 2 ^ 63
