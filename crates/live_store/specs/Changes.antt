-- What a session's change does to the session, and what a refusal leaves.
use Rattle.std.specs.Prelude.{ℕ, ◌≡◌, ◌<◌, ◌≤◌, ◌⊎◌, ◌++◌, ◌∷◌, [], List, length, take, true}
use mathlib.Core.List.{IsPrefix}
use Rattle.call_tree.specs.State.{TreeState}
use Rattle.op_book.specs.Books.{BookState, IsAppended, IsChangeRefused, IsReplay, ReadyState, change_told}
use Rattle.op_book.specs.Books.{receipt_after}
use Rattle.op_book.specs.Operations.{PlainEntry, PlainOp, PlainReceipt, is_change}
use Rattle.op_book.specs.Runs.{turns_of}
use Rattle.op_book.specs.declared.fault.BookFault.{BookFault}
use Rattle.op_book.specs.declared.fault.BookFault.TheVariants as book
use Rattle.live_store.specs.Sessions.{IsPlaced, changes_by, changes_of}
use Rattle.live_store.specs.Stores.{IsFirstShown, IsShownBy, SessionState, ShowsCause, changes_told}
use Rattle.live_store.specs.declared.locked_book.log.Log.{Log}

-- a session by its log and the changes that it knows of
abbrev pub session_of : Log → List PlainEntry → SessionState
session_of log seen = record { number = log.number; log = log.receipts.items; seen = seen }

-- a log keeps its number, and ends with a receipt more
pub record HasKept (before : Log) (receipt : PlainReceipt) (after : Log) : Type 0 where
  pub number : after.number ≡ before.number
  pub log : after.receipts.items ≡ before.receipts.items ++ receipt ∷ []

-- a session made a change: the change stands at this place, after all that was known; it is the last of what is known
-- now and of what others may be told; and the log ends with its receipt
pub record HasChanged (before : SessionState) (op : PlainOp) (place : ℕ) (told : List PlainEntry)
    (after : SessionState) : Type 0 where
  pub number : after.number ≡ before.number
  pub seen : IsPrefix before.seen after.seen
  pub placed : IsPlaced before.seen before.number (changes_told before.log) op place after.seen
  pub told_is : told ≡ after.seen
  pub log : after.log ≡ before.log ++ change_told op place ∷ []

-- a session of a store of this limit, of so many sessions and values, was refused a change: its log is as it was, and
-- what it knows of then shows the cause, which is the first that there is, or that there is no memory
pub record IsRefused (limit sessions width : ℕ) (before : SessionState) (op : PlainOp) (after : SessionState)
    (fault : BookFault) : Type 0 where
  pub number : after.number ≡ before.number
  pub seen : IsPrefix before.seen after.seen
  pub log : after.log ≡ before.log
  pub cause : ShowsCause limit width (changes_told before.log) op fault
  pub shown : IsShownBy after.seen before.number fault
  pub first : (fault ≡ book.NoMemory)
      ⊎ IsFirstShown limit sessions width after.seen before.number (changes_told before.log) op fault

-- a session made a change, and knows of no change of its own but those that its log tells of
pub record HasMade (before : SessionState) (op : PlainOp) (place : ℕ) (told : List PlainEntry)
    (after : SessionState) : Type 0 where
  pub changed : HasChanged before op place told after
  pub own : changes_by after.number after.seen ≡ changes_of after.log

-- the event of a change: the session made it, the book has its entry, and the session knows of all changes of the book
pub record IsEvent (before : SessionState) (book : BookState) (op : PlainOp) (place : ℕ) (told : List PlainEntry)
    (after : SessionState) (book_after : BookState) : Type 0 where
  pub changed : HasChanged before op place told after
  pub appended : IsAppended book before.number (changes_told before.log) op book_after
  pub whole : after.seen ≡ book_after.entries

-- a change that was no event: the session was refused it by its book's first fault, the book is as it was, and the
-- session knows of all its changes
pub record IsNoEvent (limit sessions width : ℕ) (before : SessionState) (book : BookState) (op : PlainOp)
    (after : SessionState) (book_after : BookState) (fault : BookFault) : Type 0 where
  pub refused : IsRefused limit sessions width before op after fault
  pub kept : IsChangeRefused book before.number (changes_told before.log) op book_after fault
  pub whole : after.seen ≡ book_after.entries

-- a session heard of changes that the history has: it knows the longer of two lists, which begins with both
pub record HasHeard (before : SessionState) (told : List PlainEntry) (after : SessionState) : Type 0 where
  pub number : after.number ≡ before.number
  pub log : after.log ≡ before.log
  pub longer : length before.seen < length told → after.seen ≡ told
  pub same : length told ≤ length before.seen → after.seen ≡ before.seen
  pub begins : IsPrefix before.seen after.seen
  pub begins_told : IsPrefix told after.seen

-- a session asked, and its log ends with the receipt of its question, over changes that it now knows of
pub record HasReported (before : SessionState) (question : PlainOp) (after : SessionState) : Type 0 where
  pub number : after.number ≡ before.number
  pub seen : IsPrefix before.seen after.seen
  pub log : after.log ≡ before.log ++ receipt_after after.seen question ∷ []

-- a session of a store of this limit and width wasn't answered: its log is as it was, and what it knows of shows the
-- cause
pub record IsUnanswered (limit width : ℕ) (before : SessionState) (op : PlainOp) (after : SessionState)
    (fault : BookFault) : Type 0 where
  pub log : after.log ≡ before.log
  pub cause : ShowsCause limit width (changes_told before.log) op fault
  pub shown : IsShownBy after.seen after.number fault

-- a change that a book is ready for is the next of a session that knows all changes of the book
pub record IsNextOf (session : SessionState) (book : BookState) (ready : ReadyState) : Type 0 where
  pub before : ready.before ≡ book
  pub known : session.seen ≡ book.entries
  pub change : is_change ready.op ≡ true
  pub mine : ready.session ≡ session.number
  pub taken : ready.turn ≡ changes_told session.log
  pub turn_is : ready.turn ≡ turns_of book.entries ready.session

-- a tree of so many values is what counted at this place of the changes: the aggregate of the additions before it,
-- since the last reset before it
pub record IsWindow (seen : List PlainEntry) (place width : ℕ) (tree : TreeState) : Type 0 where
  pub width_is : tree.width ≡ width
  pub replay : IsReplay (take place seen) tree
