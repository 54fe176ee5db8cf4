-- The count of a line: digits after its last space.
use Rattle.std.proofs.lemmas.Grind.{common_steps}
use Rattle.std.proofs.Common.{◌≡◌, ◌≢◌, ℕ, ◌<◌, List, [], ◌∷◌, ◌++◌, length, get_or, take, drop, refl, sym, ◌∙◌, arith}
use Rattle.std.proofs.Common.{◌+◌, ◌-◌, ◌*◌, ◌≤◌, ap, get_or-drop, length-drop}
use Rattle.std.specs.List.{AllByRecursion}
use Rattle.std.specs.Str.Parse.{AllDigits, IsNumeral, digits_value}
use Rattle.std.proofs.lemmas.List.{drop_more, take-append-drop}
use Rattle.std.proofs.lemmas.List.Elements.{All-from_get_or, recursion_from_All}
use Rattle.std.proofs.lemmas.Int.Digits.{digits_value_more}
use Rattle.std.proofs.lemmas.Str.{digit_value_digit}
use Rattle.std.proofs.lemmas.Str.Parse.{digit_at}
use Rattle.folded_text.specs.FoldedText.{HasCount}

-- digits hold no space
pub AllDigits-no_space : (digits : List ℕ) → AllDigits 10 digits → AllByRecursion (λ byte. byte ≢ 32) digits
AllDigits-no_space digits all =
    recursion_from_All (λ byte. byte ≢ 32) digits (All-from_get_or (λ byte. byte ≢ 32) digits 0
    (λ k lt e. let digit = digit_at digits k all lt in omega arith))

absent : (before after bytes : List ℕ) → AllByRecursion (λ byte. byte ≢ 32) bytes → bytes ≡ before ++ 32 ∷ after → ⊥
absent [] after [] all e = cc
absent [] after (byte ∷ bytes) all e = all.0 (cc)
absent (x ∷ before) after [] all e = cc
absent (x ∷ before) after (byte ∷ bytes) all e = absent before after bytes all.1 (cc)

-- a last space is in one place
pub same_last_space : (a b x y : List ℕ) → a ++ 32 ∷ x ≡ b ++ 32 ∷ y
    → AllByRecursion (λ byte. byte ≢ 32) x → AllByRecursion (λ byte. byte ≢ 32) y → (a ≡ b) × (x ≡ y)
same_last_space [] [] x y e no_x no_y = (refl, cc)
same_last_space [] (q ∷ b) x y e no_x no_y = absurd (absent b y x no_x (cc))
same_last_space (p ∷ a) [] x y e no_x no_y = absurd (absent a x y no_y (cc))
same_last_space (p ∷ a) (q ∷ b) x y e no_x no_y = grind (arith, common_steps, same_last_space a b x y (cc) no_x no_y)

pub HasCount-same : (line a b x y : List ℕ) → HasCount line a x → HasCount line b y → (a ≡ b) × (x ≡ y)
HasCount-same line a b x y one other = grind (arith, common_steps, AllDigits-no_space, same_last_space)

-- a line without a space has no count
pub HasCount-space : (line stack digits : List ℕ)
    → ((k : ℕ) → k < length line → get_or line k 0 ≢ 32) → ¬ HasCount line stack digits
HasCount-space line stack digits none has =
    none (length stack) (grind (arith, common_steps, has.parts)) (grind (arith, common_steps, has.parts))

-- the parts before and after the last space
pub last_cut : (line : List ℕ) (at : ℕ) → at < length line → get_or line at 0 ≡ 32
    → ((k : ℕ) → at + 1 ≤ k → k < length line → get_or line k 0 ≢ 32)
    → (line ≡ take at line ++ 32 ∷ drop (at + 1) line) × AllByRecursion (λ byte. byte ≢ 32) (drop (at + 1) line)
last_cut line at lt is none = (
  sym (take-append-drop at line) ∙ ap (λ rest. take at line ++ rest) (drop_more line at 0 lt)
      ∙ ap (λ byte. take at line ++ byte ∷ drop (at + 1) line) is,
  recursion_from_All (λ byte. byte ≢ 32) (drop (at + 1) line)
      (All-from_get_or (λ byte. byte ≢ 32) (drop (at + 1) line) 0 (λ k k_lt e.
      none (at + 1 + k) (omega arith) (omega (arith, length-drop (at + 1) line, k_lt))
      (sym (get_or-drop (at + 1) line k 0) ∙ e))),
)

pub HasCount-digits : (line stack digits a x : List ℕ)
    → line ≡ stack ++ 32 ∷ digits → AllByRecursion (λ byte. byte ≢ 32) digits → HasCount line a x → x ≡ digits
HasCount-digits line stack digits a x parts none has =
    (same_last_space a stack x digits (sym has.parts ∙ parts) (AllDigits-no_space x has.numeral.1) none).1

-- ---- what the digits write

-- digits and one more
pub digits_value-next : (digits : List ℕ) (i : ℕ) → IsNumeral 10 digits → i < length digits
    → digits_value 10 (take (i + 1) digits) ≡ 10 * digits_value 10 (take i digits) + (get_or digits i 0 - 48)
digits_value-next digits i numeral lt =
    let digit = digit_at digits i numeral.1 lt in
    omega (arith, digits_value_more 10 digits i lt, digit_value_digit (get_or digits i 0) digit, digit)
