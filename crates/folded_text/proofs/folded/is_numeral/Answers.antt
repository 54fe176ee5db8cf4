-- A text of one byte or more, all of which are digits.
use Rattle.std.proofs.Common.{rules, ℕ, ◌<◌, Bool, List, true, false, length, refl, inl, inr, arith}
use Rattle.std.specs.Char.{IsAsciiDigit, IsNotAsciiDigit}
use Rattle.std.specs.Prelude.{IsTrue, MatchBool}
use Rattle.std.specs.List.{AllWithin, HoldsAt}
use Rattle.std.specs.Str.Parse.{IsNumeral}
use Rattle.std.proofs.lemmas.Iterator.{cases_from_all}
use Rattle.std.proofs.lemmas.Iterator.Adapters.{YieldsList-from_bytes}
use Rattle.std.proofs.lemmas.Str.Parse.{digit_at, numerals_by_value, tells_by_index}
use Rattle.folded_text.proofs.folded.is_numeral.Goals as goal

decided : (text : List ℕ) (r : Bool) → 0 < length text → MatchBool r
    (AllWithin IsAsciiDigit text 0 (length text)) ((k : ℕ) × (k < length text) × HoldsAt IsNotAsciiDigit text k)
    → (IsTrue r → IsNumeral 10 text) × (IsNumeral 10 text → IsTrue r)
decided text true some cases = (
  λ yes. (some, (numerals_by_value _ tells_by_index).to text (λ k lt. cases k 0 (omega arith) lt)),
  λ numeral. refl,
)
decided text false some (k, lt, bad) = (λ yes. cc, λ numeral. absurd (apart (digit_at text k numeral.1 lt) (bad 0)))
  where
    apart : {byte : ℕ} → IsAsciiDigit byte → IsNotAsciiDigit byte → ⊥
    apart in_range out = elim out [ inl low ↦ omega arith | inr high ↦ omega arith ]

pub returns-then-not-is_empty : goal.returns-then-not-is_empty
returns-then-not-is_empty c =
    decided c.args.text.now c.all.result (search rules)
    (cases_from_all _ _ _ IsAsciiDigit IsNotAsciiDigit c.all.ensures.ran
    (YieldsList-from_bytes c.args.text.now c.bytes.ensures.rest) (λ x q k. search rules) (λ x q k. search rules))
