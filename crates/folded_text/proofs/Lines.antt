-- The lines of a text, as `bstr` gives them and as the grammar has them.
use Rattle.std.proofs.lemmas.Grind.{common_steps}
use Rattle.std.proofs.Common.{◌≡◌, ◌≢◌, ℕ, ◌+◌, ◌-◌, ◌<◌, ◌≤◌, Bool, false, eqb, eqb-true, List, [], ◌∷◌, ◌++◌, length}
use Rattle.std.proofs.Common.{true, map, refl, take, sym, ap, ◌∙◌, inl, inr, arith, length-drop, lit<, subst}
use Rattle.std.specs.Prelude.{◌==◌, slice_index, if◌then◌else◌}
use Rattle.std.specs.List.{slice_split, AllByRecursion, All, position_or_len, before_first, after_first}
use Rattle.std.specs.Str.{IsUtf8}
use Rattle.std.specs.Str.Lines.{lines, lines_of_parts, strip_carriage_return}
use Rattle.std.proofs.lemmas.Bool.{cases_lt}
use Rattle.std.proofs.lemmas.List.{append_assoc}
use Rattle.std.proofs.lemmas.List.Elements.{All-from_recursion, recursion_from_All, All-take}
use Rattle.std.proofs.lemmas.List.Splits.{slice_split_at, length-slice_split}
use Rattle.std.proofs.lemmas.Str.{IsUtf8-take, IsCharBoundary-before_ascii}
use Rattle.std.proofs.lemmas.List.Sums.{fails_before_first, passes_at_first, split_at_first}
use borrow.Author.Tests.{eqb-false}
use Prim.Native.Nat.{zero, suc}
use Rattle.bstr.specs.Text.{lines_of, without_terminator}
use Rattle.bstr.proofs.lemmas.LineLemmas.{lines-append, lines-empty, lines-one}
use Rattle.ordered_rows.proofs.Pieces.{pieces, pieces-IsUtf8, slice_split-whole}

abbrev pub IsFeed : ℕ → Bool
IsFeed byte = eqb byte 10

-- a text without a line feed is one line, as it is
lone : (text : List ℕ) → 0 < length text
    → length text ≤ position_or_len IsFeed text → map without_terminator (lines_of text) ≡ lines text
lone text some past =
    let one = lines-one text some (λ k lt. eqb-false _ 10 (fails_before_first IsFeed text k 0 (omega arith))) in
    let last = fails_before_first IsFeed text (length text - 1) 0 (omega arith) in
    grind (arith, common_steps, one, last, slice_split-whole IsFeed text past)

-- the last byte of a line that ends in a line feed, which goes
unended : (front : List ℕ) → without_terminator (front ++ 10 ∷ []) ≡ strip_carriage_return front
unended front = grind (arith, common_steps)

more_lines : (front : List ℕ) (parts : List (List ℕ)) → 0 < length parts
    → lines_of_parts (front ∷ parts) ≡ strip_carriage_return front ∷ lines_of_parts parts
more_lines front [] some = absurd (omega arith)
more_lines front (part ∷ parts) some = refl

pub more_parts : (front text : List ℕ) → lines_of_parts (front ∷ slice_split IsFeed text)
    ≡ strip_carriage_return front ∷ lines_of_parts (slice_split IsFeed text)
more_parts front text = more_lines front (slice_split IsFeed text) (omega (arith, length-slice_split IsFeed text))

-- a line with its line feed is one line
ended : (front : List ℕ) → All (λ byte. IsFeed byte ≡ false) front
    → lines_of (front ++ 10 ∷ []) ≡ (front ++ 10 ∷ []) ∷ []
ended front none = grind (arith, common_steps, lines-one, eqb-false)

one_more : (front back : List ℕ) → All (λ byte. IsFeed byte ≡ false) front
    → lines_of ((front ++ 10 ∷ []) ++ back) ≡ (front ++ 10 ∷ []) ∷ lines_of back
one_more front back none = grind (arith, common_steps, ended, lines-append)

-- a text with a line feed is the line before it, and the lines after it
cut : (front back : List ℕ)
    → All (λ byte. IsFeed byte ≡ false) front → map without_terminator (lines_of back) ≡ lines back
    → map without_terminator (lines_of (front ++ 10 ∷ back)) ≡ lines (front ++ 10 ∷ back)
cut front back none rest =
    let step = one_more front back none in
    let parts = slice_split_at IsFeed front 10 back none refl in
    grind (arith, append_assoc, step, parts, rest, unended, more_parts)

same_lines : (n : ℕ) (text : List ℕ) → length text ≤ n → map without_terminator (lines_of text) ≡ lines text
same_lines n [] small = ap (map without_terminator) (lines-empty [] refl)
same_lines zero (byte ∷ text) small = absurd (omega arith)
same_lines (suc n) (byte ∷ text) small =
    let all : List ℕ = byte ∷ text in
    elim (cases_lt (position_or_len IsFeed all) (length all)) [
      | inl lt ↦
          let at_feed : all ≡ before_first IsFeed all ++ 10 ∷ after_first IsFeed all = split_at_first IsFeed all 0 lt
          ∙ ap (λ z. before_first IsFeed all ++ z ∷ after_first IsFeed all)
          (eqb-true _ 10 (passes_at_first IsFeed all 0 lt)) in
          subst (λ t. map without_terminator (lines_of t) ≡ lines t) (sym at_feed)
          (cut (before_first IsFeed all) (after_first IsFeed all) (grind (arith, common_steps, fails_before_first))
          (same_lines n (after_first IsFeed all)
          (omega (arith, length-drop (position_or_len IsFeed all + 1) all))))
      | inr past ↦ lone all (omega arith) past
    ]

-- what `bstr` gives as the lines of a text are its lines
pub lines_of-lines : (text : List ℕ) → map without_terminator (lines_of text) ≡ lines text
lines_of-lines text = same_lines (length text) text (omega arith)

-- what holds of the parts between line feeds, also where a carriage return goes, holds of the lines
each_line : (P : List ℕ → Type 0) → ((part : List ℕ) → P part → P (strip_carriage_return part))
    → (parts : List (List ℕ)) → AllByRecursion P parts → AllByRecursion P (lines_of_parts parts)
each_line P strip [] all = tt
each_line P strip (part ∷ []) all = grind (arith, common_steps)
each_line P strip (part ∷ next ∷ parts) all = (strip part all.0, each_line P strip (next ∷ parts) all.1)

-- no line holds a line feed
pub lines-one_line : (text : List ℕ) → All (All (λ byte. byte ≢ 10)) (lines text)
lines-one_line text =
    All-from_recursion (All (λ byte. byte ≢ 10)) (lines text)
    (each_line (All (λ byte. byte ≢ 10)) (λ part all. grind (arith, common_steps, All-take))
    (slice_split IsFeed text) (pieces IsFeed (λ byte. byte ≢ 10) text
    (recursion_from_All (λ byte. IsFeed byte ≡ false → byte ≢ 10) text (λ k d lt e. eqb-false _ 10 e))))

stripped : (line : List ℕ) → IsUtf8 line → IsUtf8 (strip_carriage_return line)
stripped line utf8 = elim_ends (slice_index line (length line - 1) == 13) refl
  where
    elim_ends : (b : Bool) → (slice_index line (length line - 1) == 13) ≡ b
        → IsUtf8 (if b then take (length line - 1) line else line)
    elim_ends true e =
        IsUtf8-take line (length line - 1) utf8 (IsCharBoundary-before_ascii line (length line - 1)
        (grind (arith, common_steps)) (grind (arith, common_steps, eqb-true)))
    elim_ends false e = utf8

-- the lines of UTF-8 are UTF-8
pub lines-IsUtf8 : (text : List ℕ) → IsUtf8 text → All IsUtf8 (lines text)
lines-IsUtf8 text utf8 =
    All-from_recursion IsUtf8 (lines text)
    (each_line IsUtf8 stripped (slice_split IsFeed text) (pieces-IsUtf8 10 text (lit< tt) utf8))
