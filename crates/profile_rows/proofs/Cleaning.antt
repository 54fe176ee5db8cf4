-- The names of a profile's texts.
use Rattle.std.proofs.lemmas.Grind.{common_steps}
use Rattle.std.proofs.Common.{◌≡◌, ◌≢◌, ℕ, ◌<◌, ◌≤◌, true, List, [], ◌∷◌, get_or, length, map, refl, sym, ap}
use Rattle.std.proofs.Common.{◌∙◌, subst, arith, ◌⊎◌, inl, inr}
use Rattle.std.specs.Prelude.{◌==◌, false, Some}
use Rattle.std.specs.List.{AllByRecursion}
use Rattle.std.specs.Str.{IsUtf8}
use Rattle.std.proofs.lemmas.Bool.{cases_lt, cases_eq, eq-eqb, eqb-false, ne_eqb, le-ltb, lt-ltb, and_parts}
use Rattle.std.proofs.lemmas.List.{map-append, length-map}
use Rattle.std.proofs.lemmas.List.Elements.{All-from_recursion, All-map, recursion_from_All}
use Rattle.std.proofs.lemmas.Str.{IsUtf8-nil, IsUtf8-append, IsUtf8-encode, IsUtf8-from_ascii, encode_ascii}
use Rattle.std.proofs.lemmas.Str.Ascii.{IsAscii-from_all}
use lib.Utf8.{scalar, scalars, encode, encodes}
use Rattle.profile_rows.specs.Names.{IsName, cleaned_byte, cleaned_name_of}

-- what becomes of a byte
cleaned-cases : (byte : ℕ) → ((byte ≡ 59) × (cleaned_byte byte ≡ 58))
    ⊎ (((byte ≡ 10) × (cleaned_byte byte ≡ 32)) ⊎ ((byte ≢ 59) × (byte ≢ 10) × (cleaned_byte byte ≡ byte)))
cleaned-cases byte = grind (arith, common_steps, cases_eq, eq-eqb, ne_eqb)

cleaned-no_separator : (byte : ℕ) → cleaned_byte byte ≢ 59
cleaned-no_separator byte = grind (arith, common_steps, cleaned-cases)

cleaned-no_line_feed : (byte : ℕ) → cleaned_byte byte ≢ 10
cleaned-no_line_feed byte = grind (arith, common_steps, cleaned-cases)

cleaned-ascii : (byte : ℕ) → byte < 128 → cleaned_byte byte < 128
cleaned-ascii byte small = grind (arith, common_steps, cleaned-cases)

cleaned-plain : (byte : ℕ) → byte ≢ 59 → byte ≢ 10 → cleaned_byte byte ≡ byte
cleaned-plain byte other plain = rw (ne_eqb byte 59 other, ne_eqb byte 10 plain) refl

cleaned-high : (byte : ℕ) → 128 ≤ byte → cleaned_byte byte ≡ byte
cleaned-high byte high =
    cleaned-plain byte (λ e. absurd (omega (arith, e, high))) (λ e. absurd (omega (arith, e, high)))

-- ---- text stays text

-- a character that isn't ASCII has no byte that is
encode-cleaned : (c : ℕ) → 128 ≤ c → map cleaned_byte (encode c) ≡ encode c
unfolding encode
encode-cleaned c high = grind (arith, common_steps, cases_lt, le-ltb, lt-ltb, cleaned-high)

pub cleaned-utf8 : (characters : List ℕ) → scalars characters ≡ true → IsUtf8 (map cleaned_byte (encodes characters))
cleaned-utf8 [] all = IsUtf8-nil
cleaned-utf8 (c ∷ characters) all =
    let parts = and_parts (scalar c) (scalars characters) all in
    let rest = cleaned-utf8 characters parts.1 in
    let joined = map-append cleaned_byte (encode c) (encodes characters) in
    let first : IsUtf8 (map cleaned_byte (encode c)) = elim (cases_lt c 128) [
      | inl low ↦ subst (λ bytes. IsUtf8 (map cleaned_byte bytes)) (sym (encode_ascii c low))
          (IsUtf8-from_ascii (cleaned_byte c ∷ []) (IsAscii-from_all (cleaned_byte c ∷ [])
          (All-from_recursion (λ b. b < 128) (cleaned_byte c ∷ []) (cleaned-ascii c low, tt))))
      | inr high ↦ subst IsUtf8 (sym (encode-cleaned c high)) (IsUtf8-encode c parts.0)
    ] in
    subst IsUtf8
    (sym joined) (IsUtf8-append (map cleaned_byte (encode c)) (map cleaned_byte (encodes characters)) first rest)

pub IsUtf8-cleaned : (text : List ℕ) → IsUtf8 text → IsUtf8 (map cleaned_byte text)
IsUtf8-cleaned text (characters, (scalar_each, spelled)) =
    subst (λ bytes. IsUtf8 (map cleaned_byte bytes)) spelled (cleaned-utf8 characters scalar_each)

-- ---- names

-- a text that can be a name stays as it is
pub cleaned-name : (text : List ℕ) → IsName text → cleaned_name_of text ≡ Some text
cleaned-name [] this = let some = this.not_empty in absurd (omega (arith, some))
cleaned-name (byte ∷ bytes) this =
    ap Some (same (byte ∷ bytes) (recursion_from_All (λ b. b ≢ 59) (byte ∷ bytes) this.no_separator)
    (recursion_from_All (λ b. b ≢ 10) (byte ∷ bytes) this.no_line_feed))
  where
    same : (text : List ℕ)
        → AllByRecursion (λ b. b ≢ 59) text → AllByRecursion (λ b. b ≢ 10) text → map cleaned_byte text ≡ text
    same [] a b = refl
    same (byte ∷ text) a b = ap (λ z. z ∷ map cleaned_byte text) (cleaned-plain byte a.0 b.0)
        ∙ ap (λ t. byte ∷ t) (same text a.1 b.1)

-- what is cleaned can be a name
pub IsName-cleaned : (text : List ℕ) → IsUtf8 text → 0 < length text → IsName (map cleaned_byte text)
IsName-cleaned text utf8 some = record {
  utf8 = IsUtf8-cleaned text utf8;
  not_empty = let long = length-map text cleaned_byte in omega (arith, long, some);
  no_separator = All-map (λ b. b ≢ 59) cleaned_byte text (λ k d lt. cleaned-no_separator (get_or text k d));
  no_line_feed = All-map (λ b. b ≢ 10) cleaned_byte text (λ k d lt. cleaned-no_line_feed (get_or text k d));
}

-- a text that isn't empty has a byte
pub filled : (text : List ℕ) → (length text == 0) ≡ false → 0 < length text
filled text e = let some = eqb-false (length text) 0 e in omega arith

-- a text with a byte has a name
pub cleaned_name_of-some : (text : List ℕ) → 0 < length text → cleaned_name_of text ≡ Some (map cleaned_byte text)
cleaned_name_of-some [] some = absurd (omega (arith, some))
cleaned_name_of-some (byte ∷ bytes) some = refl
