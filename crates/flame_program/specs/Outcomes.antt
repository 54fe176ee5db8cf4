-- The exit statuses of the program, and what it says of its end.
use Rattle.std.specs.Prelude.{ℕ, List, [], ◌∷◌, ◌++◌, Option, Some, None, codes, cond, option_map, string_bytes}
use Rattle.flame_program.specs.declared.outcomes.Outcome.{Outcome}
use Rattle.flame_program.specs.declared.outcomes.Outcome.TheVariants.{Done, Words, Fault}
use Rattle.flame_program.specs.declared.outcomes.ToolFault.{ToolFault}
use Rattle.flame_program.specs.declared.outcomes.ToolFault.TheVariants.{Input, Name, Sessions, Live}
use Rattle.flame_program.specs.declared.outcomes.ToolFault.TheVariants.{Read, Write, TooLong, NoMemory}
use Rattle.live_report.specs.declared.fault.LiveFault.{LiveFault}
use Rattle.live_report.specs.Faults.{is_shortage}

-- 4: a thread, memory or a place for versions was missing. 5: the store refused an operation, or the audit the logs.
abbrev pub live_code_of : LiveFault → ℕ
live_code_of fault = cond (is_shortage fault) 4 5

-- 1: the input is refused. 2: a name of the words can't be one, or there is no session for a warm start. 3: the world
-- outside failed. 4: memory ran out. Else the rows couldn't be stored or confirmed.
abbrev pub fault_code_of : ToolFault → ℕ
fault_code_of (Input fault) = 1
fault_code_of Name = 2
fault_code_of Sessions = 2
fault_code_of (Live fault) = live_code_of fault
fault_code_of Read = 3
fault_code_of Write = 3
fault_code_of TooLong = 1
fault_code_of NoMemory = 4

-- 2: the words are refused, or ask for help
abbrev pub code_of : Outcome → ℕ
code_of Done = 0
code_of (Words text) = 2
code_of (Fault fault) = fault_code_of fault

-- the text of a fault of the program's own; those of an input and of a store have the text of the crate that tells them
abbrev pub fault_text_of : ToolFault → Option (List ℕ)
fault_text_of (Input fault) = None
fault_text_of (Live fault) = None
fault_text_of Name = Some (codes "C1 Name")
fault_text_of Sessions = Some (codes "C2 Sessions")
fault_text_of Read = Some (codes "E1 Read")
fault_text_of Write = Some (codes "E2 Write")
fault_text_of TooLong = Some (codes "E3 TooLong")
fault_text_of NoMemory = Some (codes "E4 NoMemory")

-- what the program says of its end, where the text is its own: nothing where it is done, and the text for the user
-- where words are refused
abbrev pub said_of : Outcome → Option (List ℕ)
said_of Done = Some []
said_of (Words text) = Some (string_bytes text)
said_of (Fault fault) = option_map (λ text. codes "flame: " ++ text ++ 10 ∷ []) (fault_text_of fault)
