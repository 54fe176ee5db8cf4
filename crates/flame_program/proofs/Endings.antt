-- What a run's end says of its reader.
use Rattle.std.proofs.Common.{◌≡◌, ◌+◌, ℕ, List, [], Option, Some, None, sym, arith}
use Rattle.std.proofs.KnownBytes.{Keeps-refl}
use Rattle.std.specs.Io.KnownBytes.{Keeps}
use Rattle.flame_program.specs.Parts.{IsWholeInput, LeavesAfterFault, TakesAtMost}
use Rattle.flame_program.specs.Program.{EndsBy, EndsByFault, IsAsked, read_fault_of}
use Rattle.flame_program.specs.declared.outcomes.Outcome.{Outcome}
use Rattle.flame_program.specs.declared.outcomes.Outcome.TheVariants.{Done, Words, Fault}
use Rattle.flame_program.specs.declared.outcomes.ToolFault.TheVariants.{Name, Sessions, Read, Write, TooLong, NoMemory}
use Rattle.flame_program.specs.declared.outcomes.ToolFault.{ToolFault}
use Rattle.flame_program.specs.declared.outcomes.ToolFault.TheVariants as tool
use Rattle.flame_words.specs.declared.request.Request.{Request}
use Rattle.flame_program.specs.Requests.{IsInputFault}
use Rattle.flame_words.specs.Words.{request_of}
use Rattle.flame_program.specs.declared.streams.ReadFault.{ReadFault}
use Rattle.flame_program.specs.declared.streams.ReadFault.TheVariants as reading

-- a fault of reading ends the run before anything is written
pub ends_by_read_fault : (words : List (List ℕ)) (limit : ℕ) (unread left before : Option (List ℕ)) (fault : ReadFault)
    → IsAsked words → LeavesAfterFault limit unread left fault
    → EndsByFault words limit unread left before before (read_fault_of fault)
ends_by_read_fault words limit unread left before reading.Read asked taken = (asked, taken, Keeps-refl before)
ends_by_read_fault words limit unread left before reading.TooLong asked taken = (asked, taken, Keeps-refl before)
ends_by_read_fault words limit unread left before reading.NoMemory asked taken = (taken, Keeps-refl before)

nothing_taken : (most : ℕ) (unread left : Option (List ℕ)) → Keeps unread left → TakesAtMost most unread left
nothing_taken most None left kept = ([], omega arith, tt)
nothing_taken most (Some old) None kept = absurd kept
nothing_taken most (Some old) (Some new) kept = ([], omega arith, sym kept)

one_more_taken : (limit : ℕ) (unread left : Option (List ℕ))
    → TakesAtMost limit unread left → TakesAtMost (limit + 1) unread left
one_more_taken limit unread left taken = (taken.0, omega (arith, taken.1), taken.2)

whole_taken : (limit : ℕ) (unread left : Option (List ℕ)) (input : List ℕ) → IsWholeInput limit unread left input
    → TakesAtMost (limit + 1) unread left
whole_taken limit unread left input whole = (input, omega (arith, whole.short), whole.taken)

-- however a run ends, it took at most one byte more than the limit
pub takes_at_most : (words : List (List ℕ)) (limit : ℕ) (unread left before after : Option (List ℕ)) (cause : Outcome)
    → EndsBy words limit unread left before after cause → TakesAtMost (limit + 1) unread left
takes_at_most words limit unread left before after Done end = whole_taken limit unread left end.1.input end.1.whole
takes_at_most words limit unread left before after (Words text) end = nothing_taken (limit + 1) unread left end.1
takes_at_most words limit unread left before after (Fault (tool.Input fault)) end =
    whole_taken limit unread left end.0.input end.0.whole
takes_at_most words limit unread left before after (Fault (tool.Live fault)) end =
    whole_taken limit unread left end.0.input end.0.whole
takes_at_most words limit unread left before after (Fault Name) end = nothing_taken (limit + 1) unread left end.1
takes_at_most words limit unread left before after (Fault Sessions) end = nothing_taken (limit + 1) unread left end.1
takes_at_most words limit unread left before after (Fault Read) end = one_more_taken limit unread left end.1
takes_at_most words limit unread left before after (Fault Write) end =
    whole_taken limit unread left end.1.input end.1.whole
takes_at_most words limit unread left before after (Fault TooLong) end =
    let taken = end.1 in (taken.0, omega (arith, taken.1), taken.2)
takes_at_most words limit unread left before after (Fault NoMemory) end = one_more_taken limit unread left end.0

-- an input that isn't answered ends the run before anything is written
pub ends_by_input_fault : (words : List (List ℕ))
    (limit : ℕ) (unread left before : Option (List ℕ)) (request : Request) (input : List ℕ) (fault : ToolFault)
    → request_of words ≡ Some request → IsWholeInput limit unread left input
    → IsInputFault request input fault → EndsByFault words limit unread left before before fault
ends_by_input_fault words limit unread left before request input (tool.Input fault) asked whole first =
    (record { request = request; asked = asked; input = input; whole = whole; first = first }, Keeps-refl before)
ends_by_input_fault words limit unread left before request input Name asked whole first =
    absurd first
ends_by_input_fault words limit unread left before request input Sessions asked whole first =
    absurd first
ends_by_input_fault words limit unread left before request input (tool.Live fault) asked whole first =
    (record { request = request; asked = asked; input = input; whole = whole; first = first }, Keeps-refl before)
ends_by_input_fault words limit unread left before request input Read asked whole first =
    absurd first
ends_by_input_fault words limit unread left before request input Write asked whole first =
    absurd first
ends_by_input_fault words limit unread left before request input TooLong asked whole first =
    absurd first
ends_by_input_fault words limit unread left before request input NoMemory asked whole first =
    ((input, whole.short, whole.taken), Keeps-refl before)
