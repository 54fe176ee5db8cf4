-- The texts of options.
use Rattle.std.proofs.Common.{◌≡◌, ◌≢◌, ℕ, ◌^◌, ◌<◌, ◌≤◌, true, false, List, [], ◌∷◌, length, refl, ap, arith}
use Rattle.std.specs.Prelude.{Option, Some, None, MatchOption, not, ◌==◌, nat_le}
use Rattle.std.specs.Char.{digit_value}
use Rattle.std.specs.List.{AllByRecursion, list_all}
use Rattle.std.specs.Str.Parse.{AllDigits, IsNumeral, digits_value}
use Rattle.std.proofs.lemmas.Bool.{and_parts, leb-true, le-ltb, lt-ltb, ne_eqb, not-true}
use Rattle.std.proofs.lemmas.List.Elements.{recursion_from_All}
use Rattle.profile_rows.specs.Names.{IsName}
use Rattle.profile_rows.proofs.Cleaning.{filled}
use Rattle.flame_report.specs.declared.query.Kind.{Kind}
use Rattle.flame_words.specs.declared.request.Format.{Format}
use Rattle.flame_words.specs.declared.request.Request.TheVariants.{Report}
use Rattle.flame_words.specs.declared.words.WordsFault.{WordsFault}
use Rattle.flame_words.specs.declared.words.WordsFault.TheVariants.{Refused, BadName, Sessions, NoMemory}
use Rattle.flame_words.specs.Words.{IsNameFault, IsUnread, named_report}
use Rattle.flame_words.specs.Words.Reading.{asked}
use Rattle.flame_words.specs.Options.{is_digit, is_name_if_given, is_name_text, is_number, is_plain, number_named}

-- ---- numbers

digit_small : (byte : ℕ) → is_digit byte ≡ true → digit_value byte < 10
digit_small byte e =
    let parts = and_parts (nat_le 48 byte) (nat_le byte 57) e in
    let low = leb-true 48 byte parts.0 in
    let high = leb-true byte 57 parts.1 in
    rw (le-ltb byte 48 low, lt-ltb byte 58 (omega arith)) (omega arith)

all_digits : (text : List ℕ) → list_all is_digit text ≡ true → AllDigits 10 text
all_digits [] e = tt
all_digits (byte ∷ text) e =
    let parts = and_parts (is_digit byte) (list_all is_digit text) e in
    (digit_small byte parts.0, all_digits text parts.1)

pub IsNumeral-number : (text : List ℕ) → is_number text ≡ true → IsNumeral 10 text
IsNumeral-number text e =
    let parts = and_parts (not (length text == 0)) (list_all is_digit text) e in
    (filled text (not-true (length text == 0) parts.0), all_digits text parts.1)

pub number_found : (text : List ℕ) (found : Option ℕ) → is_number text ≡ true
    → MatchOption found (2 ^ 32 ≤ digits_value 10 text) (λ number. (number ≡ digits_value 10 text) × (number < 2 ^ 32))
    → found ≡ number_named text
number_found text None e h = rw (e, le-ltb (digits_value 10 text) (2 ^ 32) h) refl
number_found text (Some number) e h =
    let small : digits_value 10 text < 2 ^ 32 = let same = h.0 in let fits = h.1 in omega (arith, same, fits) in
    rw (e, lt-ltb (digits_value 10 text) (2 ^ 32) small) (ap Some h.0)

-- ---- names

plain_each : (text : List ℕ)
    → AllByRecursion (λ byte. byte ≢ 59) text → AllByRecursion (λ byte. byte ≢ 10) text → list_all is_plain text ≡ true
plain_each [] a b = refl
plain_each (byte ∷ text) a b = rw (ne_eqb byte 59 a.0, ne_eqb byte 10 b.0) (plain_each text a.1 b.1)

-- a name's text passes the test
pub is_name_text-name : (text : List ℕ) → IsName text → is_name_text text ≡ true
is_name_text-name text name =
    let some = name.not_empty in
    let long : (length text == 0) ≡ false = ne_eqb (length text) 0 (λ e. absurd (omega (arith, some, e))) in
    rw long (plain_each text (recursion_from_All (λ byte. byte ≢ 59) text name.no_separator)
    (recursion_from_All (λ byte. byte ≢ 10) text name.no_line_feed))

-- ---- reports by names

pub misnamed_focus : (kind : Kind) (format : Format) (value focus ignore : Option (List ℕ)) (fault : WordsFault)
    → IsNameFault focus fault → IsUnread (named_report kind format value focus ignore) fault
misnamed_focus kind format value focus ignore (Refused text) h = absurd h
misnamed_focus kind format value focus ignore BadName h = rw h refl
misnamed_focus kind format value focus ignore Sessions h = absurd h
misnamed_focus kind format value focus ignore NoMemory h = tt

pub misnamed_ignore : (kind : Kind) (format : Format) (value focus ignore : Option (List ℕ)) (fault : WordsFault)
    → is_name_if_given focus ≡ true → IsNameFault ignore fault
    → IsUnread (named_report kind format value focus ignore) fault
misnamed_ignore kind format value focus ignore (Refused text) named h = absurd h
misnamed_ignore kind format value focus ignore BadName named h = rw (named, h) refl
misnamed_ignore kind format value focus ignore Sessions named h = absurd h
misnamed_ignore kind format value focus ignore NoMemory named h = tt

pub named_asked : (kind : Kind) (format : Format) (value focus ignore : Option (List ℕ))
    → is_name_if_given focus ≡ true → is_name_if_given ignore ≡ true
    → named_report kind format value focus ignore ≡ asked (Report
    (record { format = format; value = value }) (record { focus = focus; ignore = ignore; value = 0; kind = kind }))
named_asked kind format value focus ignore one other = rw (one, other) refl
