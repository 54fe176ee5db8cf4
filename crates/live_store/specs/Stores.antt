-- What contracts see of a store and of a session.
use Rattle.std.specs.Prelude.{ℕ, ◌≡◌, ◌≢◌, ◌<◌, ◌≤◌, ◌+◌, ◌^◌, ◌⊎◌, true, List, length, map}
use Rattle.logbook.specs.Pages.{Book}
use Rattle.profile_rows.specs.Rows.{total_of}
use Rattle.profile_rows.specs.Values.{rows_at}
use Rattle.op_book.specs.Books.{BookState, IsFirstBookFault, JournalState}
use Rattle.op_book.specs.Operations.{MissesWidth, PlainEntry, PlainOp, PlainReceipt, changes_in, is_change}
use Rattle.op_book.specs.Operations.{operations_of, profile_after, rows_added}
use Rattle.op_book.specs.Runs.{most_sessions, turns_of}
use Rattle.op_book.specs.declared.fault.BookFault.{BookFault}
use Rattle.op_book.specs.declared.fault.BookFault.TheVariants as book
use Rattle.live_store.specs.declared.fault.MakeFault.{MakeFault}
use Rattle.live_store.specs.declared.fault.MakeFault.TheVariants as make
use Rattle.live_store.specs.declared.fault.SessionFault.{SessionFault}
use Rattle.live_store.specs.declared.fault.SessionFault.TheVariants as session

-- how many entries and sessions a store may have, how many values a row has, and which history is its own
pub record StoreLimits : Type 0 where
  pub limit : ℕ
  pub sessions : ℕ
  pub width : ℕ
  pub history : Book

-- a blank of a store of this limit, of so many sessions, 1 to 64, and of rows of so many values
pub record IsBlankOf (limit sessions width : ℕ) (blank : StoreLimits) : Type 0 where
  pub limit_is : blank.limit ≡ limit
  pub sessions_are : blank.sessions ≡ sessions
  pub width_is : blank.width ≡ width
  pub some : 0 < sessions
  pub few : sessions ≤ most_sessions

-- the journal of a store of this limit, of so many sessions, and of rows of so many values
pub record IsJournalOf (limit sessions width : ℕ) (journal : JournalState) : Type 0 where
  pub sessions_are : journal.sessions ≡ sessions
  pub width_is : journal.width ≡ width
  pub few : length journal.entries ≤ limit

-- why no store of so many sessions is made
abbrev pub IsMakeFault : ℕ → MakeFault → Type 0
IsMakeFault sessions make.Sessions = (sessions ≡ 0) ⊎ (most_sessions < sessions)
IsMakeFault sessions make.Place = (0 < sessions) × (sessions ≤ most_sessions)
IsMakeFault sessions make.NoMemory = (0 < sessions) × (sessions ≤ most_sessions)

-- why a store of so many sessions gives none, when so many were given
abbrev pub IsGiveFault : ℕ → ℕ → SessionFault → Type 0
IsGiveFault given sessions session.AllGiven = given ≡ sessions
IsGiveFault given sessions session.Place = given < sessions
IsGiveFault given sessions session.NoMemory = given < sessions

-- a session's number, what it was told so far, and the changes that it knows of
pub record SessionState : Type 0 where
  pub number : ℕ
  pub log : List PlainReceipt
  pub seen : List PlainEntry

-- how many changes a session made, by what it was told
abbrev pub changes_told : List PlainReceipt → ℕ
changes_told log = changes_in (map (λ (receipt : PlainReceipt). receipt.op) log)

-- what a refusal tells of its cause, in a store of this limit and width, to a session that took a turn for an operation
abbrev pub ShowsCause : ℕ → ℕ → ℕ → PlainOp → BookFault → Type 0
ShowsCause limit width turn op book.Session = ⊥
ShowsCause limit width turn op (book.Turn held) = (is_change op ≡ true) × (held ≢ turn)
ShowsCause limit width turn op (book.Full held) = (is_change op ≡ true) × (held ≡ limit)
ShowsCause limit width turn op (book.Width held) = (held ≡ width) × MissesWidth width op
ShowsCause limit width turn op (book.Heavy value held) = (value < width) × (held < 2 ^ 63)
    × (2 ^ 63 ≤ held + total_of (rows_at value (rows_added op)))
ShowsCause limit width turn op book.NoMemory = Unit {0}
ShowsCause limit width turn op book.Version = Unit {0}

-- what a session knows of shows the cause of its refusal
abbrev pub IsShownBy : List PlainEntry → ℕ → BookFault → Type 0
IsShownBy seen session (book.Turn held) = held ≡ turns_of seen session
IsShownBy seen session (book.Full held) = held ≡ length seen
IsShownBy seen session (book.Heavy value held) =
    held ≡ total_of (rows_at value (profile_after (operations_of seen)))
IsShownBy seen session book.Session = Unit {0}
IsShownBy seen session (book.Width held) = Unit {0}
IsShownBy seen session book.NoMemory = Unit {0}
IsShownBy seen session book.Version = Unit {0}

-- the first cause that a book of these changes, of this limit and for so many sessions and values, has to refuse a
-- session its turn for an operation
pub record IsFirstShown (limit sessions width : ℕ) (seen : List PlainEntry) (session turn : ℕ) (op : PlainOp)
    (fault : BookFault) : Type 0 where
  pub book : BookState
  pub entries_are : book.entries ≡ seen
  pub limit_is : book.limit ≡ limit
  pub sessions_are : book.sessions ≡ sessions
  pub width_is : book.width ≡ width
  pub first : IsFirstBookFault book session turn op fault

-- memory ran out, or no version was shown
abbrev pub IsUnseen : BookFault → Type 0
IsUnseen fault = (fault ≡ book.NoMemory) ⊎ (fault ≡ book.Version)
