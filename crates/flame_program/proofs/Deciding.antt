-- Where the words ask for something, the input decides how a run ends.
use Rattle.std.proofs.Common.{◌≡◌, ◌≢◌, ◌⊎◌, inl, inr, ◌+◌, ℕ, List, ◌++◌, length, Option, Some, None, refl, sym, ap}
use Rattle.std.proofs.Common.{◌∙◌, subst, arith, length-append}
use Rattle.std.specs.Prelude.{◌↔◌, Bool, true, false, cond, is_some}
use Rattle.std.proofs.lemmas.Bool.{false≢true}
use Rattle.std.proofs.lemmas.List.{append-nil}
use Rattle.flame_program.specs.Requests.{IsAnswer, IsInputFault, IsReadable}
use Rattle.flame_program.specs.Parts.{IsWholeInput, TakesExactly}
use Rattle.flame_program.specs.Outcomes.{code_of, live_code_of}
use Rattle.flame_program.specs.Program.{EndsBy, IsAccepted, IsUntroubled}
use Rattle.flame_words.specs.Words.{Reading, reading_of, request_in, request_of}
use Rattle.flame_words.specs.Words.Reading.{crowded, misnamed, refused}
use Rattle.flame_program.specs.declared.outcomes.Outcome.{Outcome}
use Rattle.flame_program.specs.declared.outcomes.Outcome.TheVariants.{Done, Words, Fault}
use Rattle.flame_program.specs.declared.outcomes.ToolFault.TheVariants.{Name, Sessions, Read, Write, TooLong, NoMemory}
use Rattle.flame_program.specs.declared.outcomes.ToolFault.TheVariants as tool
use Rattle.flame_words.specs.declared.request.Request.{Request}
use Rattle.flame_words.specs.declared.request.Request.TheVariants.{Report, Export, Live}
use Rattle.live_report.specs.declared.fault.LiveFault.{LiveFault}
use Rattle.live_report.specs.Faults.{is_shortage}

-- the whole input is what was unread
whole_is : (limit : ℕ) (unread : List ℕ) (left : Option (List ℕ)) (input : List ℕ)
    → IsWholeInput limit (Some unread) left input → unread ≡ input
whole_is limit unread None input whole = absurd whole.taken
whole_is limit unread (Some rest) input whole = whole.taken ∙ ap (λ r. input ++ r) whole.at_end ∙ append-nil input

abbrev request_or : Request → Option Request → Request
request_or default None = default
request_or default (Some request) = request

same_request : (one other : Request) (o : Option Request) → o ≡ Some one → o ≡ Some other → one ≡ other
same_request one other o a b = ap (λ (x : Option Request). request_or one x) (sym a ∙ b)

too_long : (limit : ℕ) (unread : List ℕ) (left : Option (List ℕ)) (request : Request)
    → TakesExactly (limit + 1) (Some unread) left → IsAccepted request limit unread → ⊥
too_long limit unread None request taken accepted = absurd taken.2
too_long limit unread (Some rest) request taken accepted =
    let long = length-append taken.0 rest in
    let whole = ap length taken.2 in
    let count = taken.1 in
    let short = accepted.0 in
    omega (arith, long, whole, count, short)

-- what a code says of the input
abbrev pub IsDecided : ℕ → Request → ℕ → List ℕ → Type 0
IsDecided code request limit input = code ≢ 3 → code ≢ 4 → IsUntroubled request code
    → ((code ≡ 0) ↔ IsAccepted request limit input) × ((code ≡ 1) ↔ ¬ IsAccepted request limit input)

accepted_at : (code : ℕ) (request : Request) (limit : ℕ) (input : List ℕ)
    → code ≡ 0 → IsAccepted request limit input → IsDecided code request limit input
accepted_at code request limit input zero accepted = λ three four calm.
    (((λ e. accepted), (λ a. zero)), ((λ e. absurd (omega (arith, zero, e))), (λ other. absurd (other accepted))))

refused_at : (code : ℕ) (request : Request) (limit : ℕ) (input : List ℕ)
    → code ≡ 1 → (IsAccepted request limit input → ⊥) → IsDecided code request limit input
refused_at code request limit input one other =
    λ three four calm. (((λ e. absurd (omega (arith, one, e))), (λ a. absurd (other a))), ((λ e. other), (λ o. one)))

no_request : (words : List (List ℕ)) (request : Request) (reading : Reading)
    → request_in reading ≡ None → reading_of words ≡ reading → request_of words ≡ Some request → ⊥
no_request words request reading none is asked =
    false≢true (sym (ap is_some none) ∙ ap (λ r. is_some (request_in r)) (sym is) ∙ ap is_some asked)

refused_input : (words : List (List ℕ)) (limit : ℕ) (unread : List ℕ) (left : Option (List ℕ))
    (request asked_for : Request) (input : List ℕ) → request_of words ≡ Some request → request_of words ≡ Some asked_for
    → IsWholeInput limit (Some unread) left input
    → (IsReadable asked_for input → ⊥) → IsAccepted request limit unread → ⊥
refused_input words limit unread left request asked_for input asked also whole none accepted =
    let same_input = whole_is limit unread left input whole in
    let same = same_request request asked_for (request_of words) asked also in
    none (subst (λ i. IsReadable asked_for i) same_input (subst (λ (r : Request). IsReadable r unread) same accepted.1))

-- an input that is answered has rows
readable : (request : Request) (input text : List ℕ) → IsAnswer request input text → IsReadable request input
readable (Report source query) input text this = (this.rows, this.spelled)
readable (Export kind unit) input text this = (this.rows, this.spelled)
readable (Live source options) input text this = (this.batch, this.spelled)

-- what happens to a store ends a run of `live` with 4 or 5
abbrev code_where : Bool → ℕ
code_where missing = cond missing 4 5

live_codes : (fault : LiveFault) → (live_code_of fault ≡ 4) ⊎ (live_code_of fault ≡ 5)
live_codes fault = by (is_shortage fault)
  where
    by : (missing : Bool) → (code_where missing ≡ 4) ⊎ (code_where missing ≡ 5)
    by true = inl refl
    by false = inr refl

no_store : (request : Request) (input : List ℕ) (fault : LiveFault) (code : ℕ)
    → IsInputFault request input (tool.Live fault) → IsUntroubled request code → code ≢ 5
no_store (Report source query) input fault code first calm = absurd first.0
no_store (Export kind unit) input fault code first calm = absurd first.0
no_store (Live source options) input fault code first calm = calm

by_store : (code : ℕ) (request : Request) (limit : ℕ) (input : List ℕ) (fault : LiveFault)
    → code ≡ live_code_of fault → (IsUntroubled request code → code ≢ 5) → IsDecided code request limit input
by_store code request limit input fault is calm = λ three four untroubled. elim (live_codes fault) [
  | inl e ↦ absurd (four (is ∙ e))
  | inr e ↦ absurd (calm untroubled (is ∙ e))
]

pub decides : (words : List (List ℕ)) (limit : ℕ) (unread : List ℕ) (left before after : Option (List ℕ))
    (cause : Outcome) (code : ℕ) (request : Request) → EndsBy words limit (Some unread) left before after cause
    → code ≡ code_of cause → request_of words ≡ Some request → IsDecided code request limit unread
decides words limit unread left before after Done code request end is asked =
    let answered = end.1 in
    let same_input = whole_is limit unread left answered.input answered.whole in
    let same = same_request answered.request request (request_of words) answered.asked asked in
    let read = readable answered.request answered.input end.0 answered.answer in
    let own : IsReadable request unread = subst
    (λ i. IsReadable request i) (sym same_input) (subst (λ (r : Request). IsReadable r answered.input) same read) in
    let short = answered.whole.short in
    let long = ap length same_input in
    accepted_at code request limit unread is (omega (arith, short, long), own)
decides words limit unread left before after (Words text) code request end is asked =
    absurd (no_request words request refused refl end.0 asked)
decides words limit unread left before after (Fault (tool.Input fault)) code request end is asked =
    let this = end.0 in
    refused_at code request limit unread is (refused_input words limit unread left request this.request this.input
    asked this.asked this.whole (λ read. this.first.1 read.0 read.1))
decides words limit unread left before after (Fault (tool.Live fault)) code request end is asked =
    by_store code request limit unread fault is
    (λ calm. no_store end.0.request end.0.input fault code end.0.first (subst (λ (r : Request). IsUntroubled r code)
    (same_request request end.0.request (request_of words) asked end.0.asked) calm))
decides words limit unread left before after (Fault Sessions) code request end is asked =
    absurd (no_request words request crowded refl end.0 asked)
decides words limit unread left before after (Fault Name) code request end is asked =
    absurd (no_request words request misnamed refl end.0 asked)
decides words limit unread left before after (Fault Read) code request end is asked =
    λ three four calm. absurd (three is)
decides words limit unread left before after (Fault Write) code request end is asked =
    λ three four calm. absurd (three is)
decides words limit unread left before after (Fault TooLong) code request end is asked =
    refused_at code request limit unread is (too_long limit unread left request end.1)
decides words limit unread left before after (Fault NoMemory) code request end is asked =
    λ three four calm. absurd (four is)
