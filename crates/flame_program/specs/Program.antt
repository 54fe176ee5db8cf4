-- How a run of the program ends, over what its reader had left and what its writer holds, before and after.
use Rattle.std.specs.Prelude.{ℕ, ⊤, ◌≡◌, ◌≢◌, ◌+◌, ◌≤◌, ◌⊎◌, ◌↔◌, List, length, Option, Some, None, IfSome}
use Rattle.std.specs.Io.KnownBytes.{Appends, Keeps}
use Rattle.flame_program.specs.Requests.{IsAnswer, IsInputFault, IsReadable}
use Rattle.flame_program.specs.Parts.{AppendsBeginning, IsWholeInput, TakesAtMost, TakesExactly}
use Rattle.flame_program.specs.Outcomes.{code_of}
use Rattle.flame_words.specs.Words.{IsCrowded, IsMisnamed, IsRefused, request_of}
use Rattle.flame_program.specs.declared.outcomes.Outcome.{Outcome}
use Rattle.flame_program.specs.declared.outcomes.Outcome.TheVariants.{Done, Words, Fault}
use Rattle.flame_program.specs.declared.outcomes.ToolFault.{ToolFault}
use Rattle.flame_program.specs.declared.outcomes.ToolFault.TheVariants as tool
use Rattle.flame_program.specs.declared.outcomes.ToolFault.TheVariants.{Name, Sessions, Read, Write, TooLong, NoMemory}
use Rattle.flame_program.specs.declared.streams.ReadFault.{ReadFault}
use Rattle.flame_program.specs.declared.streams.ReadFault.TheVariants as reading
use Rattle.flame_words.specs.declared.words.WordsFault.{WordsFault}
use Rattle.flame_words.specs.declared.words.WordsFault.TheVariants as words
use Rattle.flame_words.specs.declared.request.Request.{Request}
use Rattle.flame_words.specs.declared.request.Request.TheVariants.{Report, Export, Live}

-- the words ask for something
abbrev pub IsAsked : List (List ℕ) → Type 0
IsAsked words = (request : Request) × (request_of words ≡ Some request)

-- the words ask for this text of the whole input
pub record IsAnswered (words : List (List ℕ)) (limit : ℕ) (unread left : Option (List ℕ))
    (text : List ℕ) : Type 0 where
  pub request : Request
  pub asked : request_of words ≡ Some request
  pub input : List ℕ
  pub whole : IsWholeInput limit unread left input
  pub answer : IsAnswer request input text

-- the report was written whole
abbrev pub IsDone : List (List ℕ) → ℕ → Option (List ℕ) → Option (List ℕ) → Option (List ℕ)
    → Option (List ℕ) → Type 0
IsDone words limit unread left before after =
    (text : List ℕ) × IsAnswered words limit unread left text × Appends before after text

-- a prefix of the report was written
abbrev pub IsCut : List (List ℕ) → ℕ → Option (List ℕ) → Option (List ℕ) → Option (List ℕ)
    → Option (List ℕ) → Type 0
IsCut words limit unread left before after =
    (text : List ℕ) × IsAnswered words limit unread left text × AppendsBeginning before after text

-- the words ask for something of an input that has no rows for it, and this is its first fault; or for `live`, and this
-- happened to its store
pub record IsRefusedInput (words : List (List ℕ)) (limit : ℕ) (unread left : Option (List ℕ))
    (fault : ToolFault) : Type 0 where
  pub request : Request
  pub asked : request_of words ≡ Some request
  pub input : List ℕ
  pub whole : IsWholeInput limit unread left input
  pub first : IsInputFault request input fault

-- what a fault says of the reader. Nothing was written, but at a fault of writing.
abbrev pub EndsByFault : List (List ℕ) → ℕ → Option (List ℕ) → Option (List ℕ) → Option (List ℕ)
    → Option (List ℕ) → ToolFault → Type 0
EndsByFault words limit unread left before after (tool.Input fault) =
    IsRefusedInput words limit unread left (tool.Input fault) × Keeps before after
EndsByFault words limit unread left before after (tool.Live fault) =
    IsRefusedInput words limit unread left (tool.Live fault) × Keeps before after
EndsByFault words limit unread left before after Name = IsMisnamed words × Keeps unread left × Keeps before after
EndsByFault words limit unread left before after Sessions = IsCrowded words × Keeps unread left × Keeps before after
EndsByFault words limit unread left before after Read =
    IsAsked words × TakesAtMost limit unread left × Keeps before after
EndsByFault words limit unread left before after Write = IsCut words limit unread left before after
EndsByFault words limit unread left before after TooLong =
    IsAsked words × TakesExactly (limit + 1) unread left × Keeps before after
EndsByFault words limit unread left before after NoMemory = TakesAtMost limit unread left × Keeps before after

-- what the cause of a run's end says. Words that are refused leave the reader and the writer alone.
abbrev pub EndsBy : List (List ℕ) → ℕ → Option (List ℕ) → Option (List ℕ) → Option (List ℕ)
    → Option (List ℕ) → Outcome → Type 0
EndsBy words limit unread left before after Done = IsDone words limit unread left before after
EndsBy words limit unread left before after (Words text) = IsRefused words × Keeps unread left × Keeps before after
EndsBy words limit unread left before after (Fault fault) = EndsByFault words limit unread left before after fault

-- a run that ended with this code, by this cause
pub record IsEnd (words : List (List ℕ)) (limit : ℕ) (unread left before after : Option (List ℕ)) (code : ℕ)
    (cause : Outcome) : Type 0 where
  pub code_is : code ≡ code_of cause
  pub story : EndsBy words limit unread left before after cause

-- an input that a request is answered on: within the limit, and with rows for it
abbrev pub IsAccepted : Request → ℕ → List ℕ → Type 0
IsAccepted request limit input =
    (length input ≤ limit) × IsReadable request input

-- a run with this code doesn't end by what happened to a store, which only `live` has
abbrev pub IsUntroubled : Request → ℕ → Type 0
IsUntroubled (Report source query) code = ⊤
IsUntroubled (Export kind unit) code = ⊤
IsUntroubled (Live source options) code = code ≢ 5

-- where the words ask for something, the input alone decides between 0 and 1, but where the streams or memory failed,
-- or the store of `live`
abbrev pub InputDecides : List (List ℕ) → ℕ → Option (List ℕ) → ℕ → Type 0
InputDecides words limit unread code =
    IfSome unread (λ input. (request : Request) → request_of words ≡ Some request
    → code ≢ 3 → code ≢ 4 → IsUntroubled request code
    → ((code ≡ 0) ↔ IsAccepted request limit input) × ((code ≡ 1) ↔ ¬ IsAccepted request limit input))

-- a fault of reading is one of the program
abbrev pub read_fault_of : ReadFault → ToolFault
read_fault_of reading.Read = Read
read_fault_of reading.TooLong = TooLong
read_fault_of reading.NoMemory = NoMemory

-- how a run ends whose words ask for nothing
abbrev pub unasked_outcome_of : WordsFault → Outcome
unasked_outcome_of (words.Refused text) = Words text
unasked_outcome_of words.BadName = Fault Name
unasked_outcome_of words.Sessions = Fault Sessions
unasked_outcome_of words.NoMemory = Fault NoMemory

-- A run that ended with this code, by this cause. At 0 the input was read to its end, and exactly the report on the
-- rows that it spells was appended. Where the words ask for something, the input alone decides, but where the streams,
-- memory or a store failed. Words that ask for nothing end with 2, unless memory runs out, and no others do. Nothing is
-- written, but at 0 and at a fault of writing: then a prefix of the report.
pub record IsRun (words : List (List ℕ)) (limit : ℕ) (unread left before after : Option (List ℕ)) (code : ℕ)
    (cause : Outcome) : Type 0 where
  pub ends : IsEnd words limit unread left before after code cause
  pub done : code ≡ 0 → IsDone words limit unread left before after
  pub decided : InputDecides words limit unread code
  pub refused : code ≡ 2 → IsRefused words ⊎ (IsMisnamed words ⊎ IsCrowded words)
  pub unasked : request_of words ≡ None → code ≢ 4 → code ≡ 2
  pub silent : code ≢ 0 → cause ≢ Fault Write → Keeps before after
  pub cut : cause ≡ Fault Write → IsCut words limit unread left before after
  pub reads_at_most : TakesAtMost (limit + 1) unread left
