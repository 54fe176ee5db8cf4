-- Where the first line feed stands, the lines are what stands before it, and those after it.
use Rattle.std.proofs.lemmas.Grind.{common_steps}
use Rattle.std.proofs.Common.{◌≡◌, ◌≢◌, ℕ, ◌+◌, ◌<◌, ◌≤◌, true, List, [], ◌∷◌, All, length, take, drop, get_or}
use Rattle.std.proofs.Common.{ap, subst, ◌∙◌, arith}
use Rattle.std.specs.List.{after_first, before_first}
use Rattle.std.specs.Str.Lines.{lines, lines_of_parts, strip_carriage_return}
use Rattle.std.proofs.lemmas.List.Elements.{All-head}
use Rattle.std.proofs.lemmas.List.Splits.{slice_split_first}
use Rattle.folded_text.specs.LineSums.{IsFirstLine}
use Rattle.folded_text.proofs.Lines.{IsFeed, lines-one_line, more_parts}
use Rattle.ordered_rows.proofs.Pieces.{first_passing, slice_split-whole}
use Rattle.folded_text.proofs.line_sums.first_line.Goals as goal

cut : (text : List ℕ) (at : ℕ)
    → at < length text → ((k : ℕ) → k < at → IsFeed (get_or text k 0) ≡ true → ⊥) → IsFeed (get_or text at 0) ≡ true
    → lines text ≡ strip_carriage_return (take at text) ∷ lines (drop (at + 1) text)
cut text at lt none is =
    let here = first_passing IsFeed text at (omega arith) none (λ _. is) in
    subst (λ at. lines text ≡ strip_carriage_return (take at text) ∷ lines (drop (at + 1) text)) here
    (ap lines_of_parts (slice_split_first IsFeed text 0 (omega arith))
    ∙ more_parts (before_first IsFeed text) (after_first IsFeed text))

-- without a line feed the text is one line
whole : (text : List ℕ) → 0 < length text
    → ((k : ℕ) → k < length text → IsFeed (get_or text k 0) ≡ true → ⊥) → lines text ≡ text ∷ []
whole text some none =
    let past = first_passing IsFeed text (length text) (omega arith) none (λ lt. absurd (omega arith)) in
    let parts = slice_split-whole IsFeed text (omega arith) in
    grind (arith, common_steps)

-- no line holds a line feed
first : (text line : List ℕ) (size : ℕ) → lines text ≡ line ∷ lines (drop size text)
    → 0 < size → size ≤ length text → IsFirstLine text line size
first text line size is some within = record {
  lines_are = is;
  one_line = All-head (All (λ (byte : ℕ). byte ≢ 10)) line (lines (drop size text))
      (subst (All (All (λ (byte : ℕ). byte ≢ 10))) is (lines-one_line text));
  some = some;
  within = within;
}

pub returns-in-Some : goal.returns-in-Some
returns-in-Some c =
    first c.args.text.now _ _ (grind (arith, common_steps, cut)) (omega arith) (grind (arith, common_steps))

pub returns-in-None : goal.returns-in-None
returns-in-None c =
    first c.args.text.now _ _ (grind (arith, common_steps, whole)) (grind (arith, common_steps)) (omega arith)
