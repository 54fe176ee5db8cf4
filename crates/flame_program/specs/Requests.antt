-- What an input answers to a request, and what keeps it from an answer.
use Rattle.std.specs.Prelude.{ℕ, ◌≡◌, ◌≢◌, ⊤, List, Option, None}
use Rattle.profile_rows.specs.Values.{BatchState}
use Rattle.flame_words.specs.LiveOptions.{PlainOptions}
use Rattle.flame_words.specs.declared.request.Format.{Format}
use Rattle.flame_words.specs.declared.request.Format.TheVariants.{Folded}
use Rattle.flame_words.specs.declared.request.Request.{Request}
use Rattle.flame_words.specs.declared.request.Request.TheVariants.{Report, Export, Live}
use Rattle.live_report.specs.Live.{live_text_of}
use Rattle.live_report.specs.declared.fault.LiveFault.{LiveFault}
use Rattle.live_report.specs.declared.fault.LiveFault.TheVariants as live
use Rattle.flame_answers.specs.declared.faults.AnswerFault.{AnswerFault}
use Rattle.flame_answers.specs.declared.faults.AnswerFault.TheVariants as answer
use Rattle.flame_answers.specs.Answers.{IsExport, IsReport}
use Rattle.flame_answers.specs.Inputs.{HasSome, IsIn, IsRefusedIn, IsToldAs, Wanted}
use Rattle.flame_answers.specs.Inputs.Wanted.{for_report, for_store}
use Rattle.flame_program.specs.declared.outcomes.ToolFault.{ToolFault}
use Rattle.flame_program.specs.declared.outcomes.ToolFault.TheVariants as tool

-- ---- what a request wants

abbrev pub format_of : Request → Format
format_of (Report source query) = source.format
format_of (Export kind unit) = Folded
format_of (Live source options) = source.format

abbrev pub wanted_of : Request → Wanted
wanted_of (Report source query) = for_report source.value
wanted_of (Export kind unit) = for_report None
wanted_of (Live source options) = for_store options.all source.value

-- the input has what the request wants
abbrev pub IsReadable : Request → List ℕ → Type 0
IsReadable request input = HasSome (format_of request) (wanted_of request) input

-- ---- what answers it

-- the text is what `live` writes of the batch of the input
pub record IsLiveText (format : Format) (value : Option (List ℕ)) (options : PlainOptions) (input text : List ℕ)
    : Type 0 where
  pub batch : BatchState
  pub spelled : IsIn format (for_store options.all value) input batch
  pub whole : text ≡ live_text_of options batch

-- the text is what the request wants of the rows of the input
abbrev pub IsAnswer : Request → List ℕ → List ℕ → Type 0
IsAnswer (Report source query) input text = IsReport source.format source.value query input text
IsAnswer (Export kind unit) input text = IsExport kind unit input text
IsAnswer (Live source options) input text = IsLiveText source.format source.value options input text

-- ---- what keeps an input from an answer

-- a fault of an answer as one of the program
abbrev pub told_of : AnswerFault → ToolFault
told_of (answer.Input fault) = tool.Input fault
told_of answer.NoMemory = tool.NoMemory

-- a fault of the store as one of the program
abbrev pub IsToldOfStore : LiveFault → ToolFault → Type 0
IsToldOfStore = IsToldAs live.NoMemory tool.NoMemory tool.Live

-- only `live` has a store
abbrev pub IsStored : Wanted → Type 0
IsStored (for_report value) = ⊥
IsStored (for_store all value) = ⊤

-- what refuses the input; what happened to the store of an input that has what is wanted; or `NoMemory`
abbrev pub IsUnanswered : Format → Wanted → List ℕ → ToolFault → Type 0
IsUnanswered format wanted input (tool.Input fault) = IsRefusedIn format wanted input (answer.Input fault)
IsUnanswered format wanted input (tool.Live fault) =
    IsStored wanted × HasSome format wanted input × (fault ≢ live.NoMemory)
IsUnanswered format wanted input tool.Name = ⊥
IsUnanswered format wanted input tool.Sessions = ⊥
IsUnanswered format wanted input tool.Read = ⊥
IsUnanswered format wanted input tool.Write = ⊥
IsUnanswered format wanted input tool.TooLong = ⊥
IsUnanswered format wanted input tool.NoMemory = ⊤

abbrev pub IsInputFault : Request → List ℕ → ToolFault → Type 0
IsInputFault request input fault = IsUnanswered (format_of request) (wanted_of request) input fault
