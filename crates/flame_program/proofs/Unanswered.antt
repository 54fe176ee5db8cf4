-- What keeps an input from an answer, told as a fault of the program.
use Rattle.std.proofs.Common.{ℕ, List}
use Rattle.flame_words.specs.declared.request.Format.{Format}
use Rattle.flame_answers.specs.declared.faults.AnswerFault.{AnswerFault}
use Rattle.flame_answers.specs.declared.faults.AnswerFault.TheVariants as answer
use Rattle.flame_answers.specs.Inputs.{IsRefusedIn, Wanted}
use Rattle.flame_program.specs.Requests.{IsUnanswered, told_of}

pub unanswered : (format : Format) (wanted : Wanted) (input : List ℕ) (fault : AnswerFault)
    → IsRefusedIn format wanted input fault → IsUnanswered format wanted input (told_of fault)
unanswered format wanted input (answer.Input fault) refused = refused
unanswered format wanted input answer.NoMemory refused = tt
