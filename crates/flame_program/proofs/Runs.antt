-- A run that ends by its cause, with the cause's code.
use Rattle.std.proofs.Common.{rules, ◌≡◌, ℕ, List, Option, Some, None}
use Rattle.std.specs.Prelude.{IfSome}
use Rattle.flame_program.specs.Outcomes.{code_of}
use Rattle.flame_program.specs.Program.{EndsBy, IsRun}
use Rattle.flame_words.specs.Words.{request_of}
use Rattle.flame_program.specs.declared.outcomes.Outcome.{Outcome}
use Rattle.flame_words.specs.declared.request.Request.{Request}
use Rattle.flame_program.proofs.Deciding.{IsDecided, decides}
use Rattle.flame_program.proofs.Endings.{takes_at_most}

known : (words : List (List ℕ)) (limit : ℕ) (unread left before after : Option (List ℕ)) (cause : Outcome) (code : ℕ)
    → EndsBy words limit unread left before after cause → code ≡ code_of cause
    → IfSome unread
    (λ input. (request : Request) → request_of words ≡ Some request → IsDecided code request limit input)
known words limit None left before after cause code end is = tt
known words limit (Some unread) left before after cause code end is =
    λ request asked. decides words limit unread left before after cause code request end is asked

pub ran : (words : List (List ℕ)) (limit : ℕ) (unread left before after : Option (List ℕ)) (cause : Outcome) (code : ℕ)
    → EndsBy words limit unread left before after cause → code ≡ code_of cause
    → IsRun words limit unread left before after code cause
ran words limit unread left before after cause code end is = record {
  ends = record { code_is = is; story = end };
  done = search (rules, end, is);
  decided = known words limit unread left before after cause code end is;
  refused = search (rules, end, is);
  unasked = search (rules, end, is);
  silent = search (rules, end, is);
  cut = search (rules, end, is);
  reads_at_most = takes_at_most words limit unread left before after cause end;
}
