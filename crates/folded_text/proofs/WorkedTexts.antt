-- Worked examples, computed by the definitions. Each line is checked by evaluating it.
use Rattle.std.proofs.lemmas.Grind.{common_steps}
use Rattle.std.proofs.Common.{◌≡◌, ◌≤◌, ◌<◌, ◌^◌, ℕ, List, [], ◌∷◌, ◌++◌, length, refl, ap, codes, arith}
use Rattle.std.specs.Fmt.{digits}
use Rattle.std.specs.Str.{IsUtf8}
use Rattle.std.specs.Str.Parse.{IsNumeral, digits_value}
use Rattle.profile_rows.proofs.WorkedAggregate.{mixed, rows_of-computed}
use Rattle.profile_rows.proofs.WorkedRows.{a, b, row, text}
use Rattle.folded_text.specs.FoldedText.{IsFoldedText, IsRowLine, folded_text_of, rows_text}
use Rattle.ordered_rows.specs.StackFrames.{frames_of}

-- empty parts of a stack text are no frames, and a name may hold spaces
empty-parts : frames_of (codes "a;;b") ≡ a ∷ b ∷ []
empty-parts = refl

no-frames : frames_of [] ≡ []
no-frames = refl

spaces-in-names : frames_of (codes "a b;c d") ≡ codes "a b" ∷ codes "c d" ∷ []
spaces-in-names = refl

-- written rows
written : rows_text (row [] 5 ∷ row (a ∷ b ∷ []) 1 ∷ row (codes "a b" ∷ codes "c d" ∷ []) 7 ∷ [])
    ≡ text (codes " 5" ∷ codes "a;b 1" ∷ codes "a b;c d 7" ∷ [])
unfolding digits
written = refl

-- the folded report: stacks in order, each once, without those of weight 0
reported : folded_text_of mixed ≡ text (codes " 4" ∷ codes "a;b 3" ∷ codes "a!;x 1" ∷ [])
unfolding digits
reported = ap rows_text (rows_of-computed mixed)

-- a line that spells a row, of ASCII characters
spelled : (stack digits : List ℕ) (frames : List (List ℕ)) (weight : ℕ)
    → IsUtf8 (stack ++ 32 ∷ digits) → IsNumeral 10 digits
    → frames ≡ frames_of stack → weight ≡ digits_value 10 digits → length frames ≤ 65535 → weight < 2 ^ 63
    → IsRowLine (stack ++ 32 ∷ digits) (row frames weight)
spelled stack digits frames weight utf8 numeral frames_are weight_is depth fits = grind (arith, common_steps)

-- Read rows: a carriage return before the line feed is dropped, an empty line is skipped, a stack may be empty, a
-- count may have zeros in front, empty parts are dropped, and the last line needs no line feed.
read : IsFoldedText (codes "a b;c d 7" ++ 13 ∷ 10 ∷ 10 ∷ codes " 05" ++ 10 ∷ codes "a;;b 1")
    (row (codes "a b" ∷ codes "c d" ∷ []) 7 ∷ row [] 5 ∷ row (a ∷ b ∷ []) 1 ∷ [])
unfolding lib.Utf8.encode
read =
    let spaces = spelled (codes "a b;c d") (codes "7") _ 7 (codes "a b;c d 7", (refl, refl))
    (omega arith, (omega arith, tt)) refl refl (omega arith) (omega arith) in
    let no_stack = spelled [] (codes "05") _ 5 (codes " 05", (refl, refl))
    (omega arith, (omega arith, (omega arith, tt))) refl refl (omega arith) (omega arith) in
    let empty_part = spelled (codes "a;;b") (codes "1") _ 1 (codes "a;;b 1", (refl, refl))
    (omega arith, (omega arith, tt)) refl refl (omega arith) (omega arith) in
    record { rows_lines = (spaces, (no_stack, (empty_part, refl))); total_fits = omega arith }
