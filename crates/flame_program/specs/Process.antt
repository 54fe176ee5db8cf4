-- How a process ends: without words, and what it says.
use Rattle.std.specs.Prelude.{ℕ, ◌≡◌, ◌≢◌, List, Option, Result, OnOk, IfSome}
use Rattle.std.specs.Io.KnownBytes.{Appends, Keeps}
use Rattle.std.specs.declared.io.Error.{Error}
use Rattle.std.specs.declared.io.ErrorKind.{ErrorKind}
use Rattle.std.specs.declared.io.ErrorKind.TheVariants.{OutOfMemory}
use Rattle.flame_program.specs.Outcomes.{code_of, said_of}
use Rattle.flame_program.specs.declared.outcomes.Outcome.{Outcome}
use Rattle.flame_program.specs.declared.outcomes.Outcome.TheVariants.{Done, Words, Fault}
use Rattle.flame_program.specs.declared.outcomes.ToolFault.TheVariants.{NoMemory}

-- The cause of an end where the words couldn't be had, by the kind of that error: some word isn't text, of which a text
-- for the user says so, or memory ran out.
abbrev pub IsUnreadCause : ErrorKind → Outcome → Type 0
IsUnreadCause kind Done = ⊥
IsUnreadCause kind (Words text) = kind ≢ OutOfMemory
IsUnreadCause kind (Fault fault) = fault ≡ NoMemory

-- a run that ended with this code, by this cause, since the words couldn't be had: nothing was read or written
pub record IsUnreadEnd (kind : ErrorKind) (unread left before after : Option (List ℕ)) (code : ℕ)
    (cause : Outcome) : Type 0 where
  pub code_is : code ≡ code_of cause
  pub cause_is : IsUnreadCause kind cause
  pub reader_is : Keeps unread left
  pub writer_is : Keeps before after

-- the error writer took what there is to say of the cause, and nothing else
abbrev pub IsSaid : Option (List ℕ) → Option (List ℕ) → Outcome → Result (Unit {0}) Error → Type 0
IsSaid before after cause said = OnOk said (IfSome (said_of cause) (Appends before after))
