-- Rows as folded text, which is folded text of these rows.
use Rattle.std.proofs.lemmas.Str.Ascii.{IsAscii-from_all}
use Rattle.std.proofs.lemmas.Grind.{common_steps}
use Rattle.std.proofs.Common.{◌≡◌, ℕ, ◌+◌, ◌-◌, ◌^◌, ◌<◌, false, List, [], ◌∷◌, ◌++◌, length, get_or, take, map}
use Rattle.std.proofs.Common.{refl, lit<, arith, length-append, ◌≤◌}
use Rattle.std.specs.Prelude.{◌≢◌}
use Rattle.std.specs.List.{AllByRecursion, All, join_with_byte}
use Rattle.std.specs.Fmt.{decimal}
use Rattle.std.specs.Char.{IsAsciiDigit}
use Rattle.std.specs.Str.{IsUtf8}
use Rattle.std.specs.Str.Lines.{lines, strip_carriage_return}
use Rattle.std.specs.Str.Parse.{IsNumeral, digits_value}
use Rattle.std.proofs.lemmas.Fmt.{decimal_is_IsNumeral, IsAscii-decimal}
use Rattle.std.proofs.lemmas.List.Elements.{All-append, All-cons, All-from_get_or, All-nil, All-weaker}
use Rattle.std.proofs.lemmas.List.Elements.{recursion_from_All}
use Rattle.std.proofs.lemmas.List.Splits.{slice_split_at}
use Rattle.std.proofs.lemmas.Str.{IsUtf8-append, IsUtf8-from_ascii, IsUtf8-nil}
use Rattle.std.proofs.lemmas.List.{get_or-map, flat_map_more, length-map, take_more}
use borrow.Author.Tests.{ne_eqb}
use Rattle.profile_rows.specs.declared.weighted_stacks.WeightedStack.{WeightedStack}
use Rattle.profile_rows.specs.Names.{IsName}
use Rattle.profile_rows.specs.Rows.{total_of, IsBatchRow}
use Rattle.profile_rows.specs.Values.{Row, row_in, rows_at, weighing}
use Rattle.ordered_rows.proofs.Joined.{frames_of-joined, joined_plain}
use Rattle.folded_text.specs.FoldedText.{AreRowLines, IsCounted, IsFoldedText, IsRowLine, row_text, rows_text}
use Rattle.std.proofs.lemmas.Str.Parse.{digit_at}
use Rattle.folded_text.proofs.Lines.{IsFeed, more_parts}

-- the stack of a row that a batch can hold
abbrev pub can_stand : WeightedStack → Type 0
can_stand row = All IsName row.stack × (length row.stack ≤ 65535)

-- a row's line, without its line feed
abbrev line_of : WeightedStack → List ℕ
line_of row = join_with_byte 59 row.stack ++ 32 ∷ decimal row.weight

-- a text after a character of ASCII
utf8_after : (byte : ℕ) (text : List ℕ) → byte < 128 → IsUtf8 text → IsUtf8 (byte ∷ text)
utf8_after byte text ascii utf8 =
    let first = All-cons (λ byte. byte < 128) byte [] ascii (All-nil (λ byte. byte < 128)) in
    IsUtf8-append (byte ∷ []) text (IsUtf8-from_ascii (byte ∷ []) (IsAscii-from_all (byte ∷ []) first)) utf8

-- ---- the stack text

joined_utf8 : (names : List (List ℕ)) → AllByRecursion IsName names → IsUtf8 (join_with_byte 59 names)
joined_utf8 [] all = IsUtf8-nil
joined_utf8 (name ∷ []) all = all.0.utf8
joined_utf8 (name ∷ next ∷ names) all = IsUtf8-append name (59 ∷ join_with_byte 59 (next ∷ names)) all.0.utf8
    (utf8_after 59 _ (lit< tt) (joined_utf8 (next ∷ names) all.1))

-- ---- the line

numeral : (row : WeightedStack)
    → row.weight < 2 ^ 63 → IsNumeral 10 (decimal row.weight) × (digits_value 10 (decimal row.weight) ≡ row.weight)
numeral row fits = decimal_is_IsNumeral row.weight (omega arith)

line_plain : (row : WeightedStack) → IsBatchRow row → All (λ byte. IsFeed byte ≡ false) (line_of row)
line_plain row is =
    let joined = joined_plain row.stack (recursion_from_All IsName row.stack is.names) in
    All-weaker (λ byte. byte ≢ 10) (λ byte. IsFeed byte ≡ false) (λ byte. ne_eqb byte 10) (line_of row)
    (All-append (λ byte. byte ≢ 10) (join_with_byte 59 row.stack) (32 ∷ decimal row.weight) joined
    (All-cons (λ byte. byte ≢ 10) 32 (decimal row.weight) (λ e. omega (arith, e))
    (All-from_get_or (λ byte. byte ≢ 10) (decimal row.weight) 0
    (λ k lt e. let digit = digit_at (decimal row.weight) k (numeral row is.fits).0.1 lt in omega arith))))

line_utf8 : (row : WeightedStack) → IsBatchRow row → IsUtf8 (line_of row)
line_utf8 row is =
    IsUtf8-append (join_with_byte 59 row.stack)
    (32 ∷ decimal row.weight) (joined_utf8 row.stack (recursion_from_All IsName row.stack is.names))
    (utf8_after 32 _ (lit< tt)
    (IsUtf8-from_ascii (decimal row.weight) (IsAscii-decimal row.weight (let fits = is.fits in omega arith))))

-- the line spells the row
line_spells : (row : WeightedStack) → IsBatchRow row → IsRowLine (line_of row) row
line_spells row is =
    let (digits, value) = numeral row is.fits in
    let frames = frames_of-joined row.stack (recursion_from_All IsName row.stack is.names) in
    let counted : IsCounted (line_of row) row (join_with_byte 59 row.stack) (decimal row.weight) =
    grind (arith, common_steps, value, frames) in
    record { utf8 = line_utf8 row is; counted = (_, _, counted); depth = is.depth; fits = is.fits }

-- its last byte is a digit, so nothing is dropped before the line feed
line_whole : (row : WeightedStack) → IsBatchRow row → strip_carriage_return (line_of row) ≡ line_of row
line_whole row is =
    let (some, digits) = (numeral row is.fits).0 in
    let digit = digit_at (decimal row.weight) (length (decimal row.weight) - 1) digits (omega arith) in
    after_digits (join_with_byte 59 row.stack) (decimal row.weight) some digit
  where
    after_digits : (stack digits : List ℕ) → 0 < length digits
        → IsAsciiDigit (get_or digits (length digits - 1) 0)
        → strip_carriage_return (stack ++ 32 ∷ digits) ≡ stack ++ 32 ∷ digits
    after_digits stack digits some digit = grind (arith, common_steps)

-- ---- the text

lines-rows_text : (rows : List WeightedStack)
    → AllByRecursion IsBatchRow rows → lines (rows_text rows) ≡ map line_of rows
lines-rows_text [] all = refl
lines-rows_text (row ∷ rows) all =
    grind (arith, common_steps, line_plain, slice_split_at, more_parts, line_whole, lines-rows_text rows all.1)

AreRowLines-cons : (line : List ℕ) (ls : List (List ℕ)) (row : WeightedStack) (rows : List WeightedStack)
    → 0 < length line → IsRowLine line row → AreRowLines ls rows → AreRowLines (line ∷ ls) (row ∷ rows)
AreRowLines-cons [] ls row rows some this rest = absurd (omega arith)
AreRowLines-cons (byte ∷ line) ls row rows some this rest = (this, rest)

spell : (rows : List WeightedStack) → AllByRecursion IsBatchRow rows → AreRowLines (map line_of rows) rows
spell [] all = refl
spell (row ∷ rows) all = grind (arith, common_steps, length-append, line_spells, AreRowLines-cons, spell rows all.1)

-- rows that a batch can hold, written, are folded text of these rows
pub rows_text-IsFoldedText : (rows : List WeightedStack)
    → All IsBatchRow rows → total_of rows < 2 ^ 63 → IsFoldedText (rows_text rows) rows
rows_text-IsFoldedText rows each fits = grind (arith, common_steps, recursion_from_All, lines-rows_text, spell)

-- ---- the loops that write

-- one row more
pub rows_text_more : (rows : List WeightedStack) (k : ℕ) (d : WeightedStack) (before after : List ℕ)
    → k < length rows → before ≡ rows_text (take k rows)
    → after ≡ before ++ row_text (get_or rows k d) → after ≡ rows_text (take (k + 1) rows)
rows_text_more rows k d before after lt so_far more = grind (arith, common_steps, flat_map_more, take_more)

-- ---- rows of several values

pub length-rows_at : (value : ℕ) (rows : List Row) → length (rows_at value rows) ≡ length rows
length-rows_at value rows = length-map rows (weighing value)

pub rows_at-row_in : (value : ℕ) (rows : List Row) (at : ℕ) (d : WeightedStack)
    → at < length rows → get_or (rows_at value rows) at d ≡ weighing value (row_in rows at)
rows_at-row_in value rows at d lt = get_or-map (weighing value) rows at _ d lt
