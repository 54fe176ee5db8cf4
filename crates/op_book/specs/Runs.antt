-- Runs: what makes a list of operations with their replies the story of one profile.
use Rattle.std.specs.Prelude.{ℕ, ◌≡◌, ◌<◌, ◌^◌, ◌==◌, true, List, count_by, get_or, length, map, take}
use Rattle.profile_rows.specs.Rows.{total_of}
use Rattle.profile_rows.specs.Values.{rows_at}
use Rattle.op_book.specs.Operations.{FitsWidth, PlainEntry, PlainOp, PlainReply, is_change, operations_of, plain_answer}
use Rattle.op_book.specs.Operations.{profile_after}

-- the most sessions of a book
abbrev pub most_sessions : ℕ
most_sessions = 64

-- how many entries a session has
abbrev pub turns_of : List PlainEntry → ℕ → ℕ
turns_of entries session = count_by (λ (entry : PlainEntry). entry.session == session) entries

-- each item has a property together with those before it
abbrev pub EachAfter : {X : Type 0} → (List X → X → Type 0) → List X → Type 0
EachAfter {X} Has items = (at : ℕ) (item : X) → at < length items → Has (take at items) (get_or items at item)

-- each reply is what the plain profile gives after the operations before it
abbrev pub IsLegal : {X : Type 0} → (X → PlainOp) → (X → PlainReply) → List X → Type 0
IsLegal {X} op reply items = EachAfter (λ before item. reply item ≡ plain_answer (map op before) (op item)) items

-- entries are a legal run
abbrev pub IsLegalRun : List PlainEntry → Type 0
IsLegalRun entries = IsLegal (λ (entry : PlainEntry). entry.op) (λ (entry : PlainEntry). entry.reply) entries

-- the turns of each session are 0, 1, 2 and so on
abbrev pub AreTurnsInOrder : List PlainEntry → Type 0
AreTurnsInOrder entries = EachAfter (λ before entry. entry.turn ≡ turns_of before entry.session) entries

-- each entry is of one of so many sessions
abbrev pub AreOfSessions : ℕ → List PlainEntry → Type 0
AreOfSessions sessions entries = EachAfter (λ before entry. entry.session < sessions) entries

-- each entry is of a profile whose rows have so many values
abbrev pub AreOfWidth : ℕ → List PlainEntry → Type 0
AreOfWidth width entries = EachAfter (λ before entry. FitsWidth width entry.op) entries

-- each entry is a change
abbrev pub AreChanges : List PlainEntry → Type 0
AreChanges entries = EachAfter (λ before entry. is_change entry.op ≡ true) entries

-- after each number of entries, what counts keeps the limit of each value
abbrev pub KeepLimit : List PlainEntry → Type 0
KeepLimit entries = (count value : ℕ)
    → total_of (rows_at value (profile_after (operations_of (take count entries)))) < 2 ^ 63
