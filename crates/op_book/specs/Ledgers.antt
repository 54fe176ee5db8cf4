-- What a ledger keeps beside its entries.
use Rattle.std.specs.Prelude.{ℕ, ◌≡◌, ◌<◌, ◌≤◌, ◌^◌, List, [], get_or, length}
use Rattle.op_book.specs.Operations.{PlainEntry}
use Rattle.op_book.specs.Runs.{AreChanges, AreOfSessions, AreOfWidth, AreTurnsInOrder, IsLegalRun, KeepLimit}
use Rattle.op_book.specs.Runs.{most_sessions, turns_of}

-- the entries, how many there may be and of how many sessions, how many values a row has, and for how many entries
-- there is memory
pub record LedgerState : Type 0 where
  pub entries : List PlainEntry
  pub limit : ℕ
  pub sessions : ℕ
  pub width : ℕ
  pub capacity : ℕ

-- a new ledger: it has no entries, and this limit, so many sessions and values
pub record IsNewLedger (limit sessions width : ℕ) (ledger : LedgerState) : Type 0 where
  pub entries : ledger.entries ≡ []
  pub limit_is : ledger.limit ≡ limit
  pub sessions_are : ledger.sessions ≡ sessions
  pub width_is : ledger.width ≡ width

-- the entries are changes of one profile, and those of each session are counted
pub record IsLedger (entries : List PlainEntry) (limit width : ℕ) (turns : List ℕ) : Type 0 where
  pub legal : IsLegalRun entries
  pub in_turn : AreTurnsInOrder entries
  pub known : AreOfSessions (length turns) entries
  pub fitted : AreOfWidth width entries
  pub changes : AreChanges entries
  pub light : KeepLimit entries
  pub turns_are : (session otherwise : ℕ) → session < length turns
      → get_or turns session otherwise ≡ turns_of entries session
  pub count : length entries ≤ limit
  pub some : 0 < length turns
  pub few : length turns ≤ most_sessions
  pub small : limit < 2 ^ 32

-- what the entries of a ledger are
pub record AreLedgerEntries (ledger : LedgerState) : Type 0 where
  pub legal : IsLegalRun ledger.entries
  pub turns : AreTurnsInOrder ledger.entries
  pub known : AreOfSessions ledger.sessions ledger.entries
  pub fitted : AreOfWidth ledger.width ledger.entries
  pub changes : AreChanges ledger.entries
  pub light : KeepLimit ledger.entries
  pub count : length ledger.entries ≤ ledger.limit
  pub small : ledger.limit < 2 ^ 32
  pub some : 0 < ledger.sessions
  pub few : ledger.sessions ≤ most_sessions
