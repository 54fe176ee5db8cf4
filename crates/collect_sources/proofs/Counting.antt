-- How many lines stand before the start of one, and in a whole text.
use Rattle.std.proofs.lemmas.Grind.{common_steps}
use Rattle.std.proofs.Common.{◌≡◌, ◌≢◌, ◌+◌, ◌-◌, ◌<◌, ◌≤◌, ◌⊎◌, ◌∙◌, ℕ, zero, suc, List, length, take, drop, get_or}
use Rattle.std.proofs.Common.{sym, ap, inl, inr, arith}
use Rattle.std.specs.Prelude.{◌==◌, slice_index}
use Rattle.std.proofs.lemmas.List.{get_or_default, get_or-drop, get_or-take, length-take-le, take_all}
use Rattle.std.proofs.lemmas.List.Sums.{count_by_more_no, count_by_more_yes}
use Rattle.collect_sources.specs.Lines.{line_count, line_ends, unended_lines}

-- a line begins here, after so many that ended
pub record IsLineStart (text : List ℕ) (number at : ℕ) : Type 0 where
  pub within : at ≤ length text
  pub after : (at ≡ 0) ⊎ ((0 < at) × (slice_index text (at - 1) ≡ 10))
  pub ends : line_ends (take at text) ≡ number

-- a byte of what is left of a text
pub rest_at : (text : List ℕ) (start k : ℕ) → start + k < length text
    → slice_index (take (length text - start) (drop start text)) k ≡ get_or text (start + k) 0
rest_at text start k within =
    get_or-take (length text - start) (drop start text) k 0 (omega (arith, within)) ∙ get_or-drop start text k 0

-- no line ends at other bytes
no_end_more : (text : List ℕ) (at : ℕ) → at < length text → get_or text at 0 ≢ 10
    → line_ends (take (at + 1) text) ≡ line_ends (take at text)
no_end_more text at within other =
    count_by_more_no (λ (byte : ℕ). byte == 10) text at 0 within (grind (arith, common_steps, other))

no_ends_more : (text : List ℕ) (at more : ℕ) → at + more ≤ length text
    → ((k : ℕ) → k < more → get_or text (at + k) 0 ≢ 10) → line_ends (take (at + more) text) ≡ line_ends (take at text)
no_ends_more text at zero within none =
    let same : at + 0 ≡ at = omega arith in ap (λ n. line_ends (take n text)) same
no_ends_more text at (suc more) within none =
    let next : at + suc more ≡ at + more + 1 = omega arith in
    ap (λ n. line_ends (take n text)) next
    ∙ no_end_more text (at + more) (omega (arith, within)) (none more (omega arith))
    ∙ no_ends_more text at more (omega (arith, within)) (λ k lt. none k (omega (arith, lt)))

-- the lines before the start of one all ended
pub lines_before : (text : List ℕ) (number at : ℕ) → IsLineStart text number at
    → line_count (take at text) ≡ number
lines_before text number zero is = omega (arith, is.ends)
lines_before text number (suc at) is = elim is.after [
  | inl none ↦ cc
  | inr feed ↦
      let size : length (take (suc at) text) ≡ suc at = length-take-le (suc at) text is.within in
      let one : suc at - 1 ≡ at = omega arith in
      let last : get_or (take (suc at) text) (length (take (suc at) text) - 1) 10 ≡ 10 =
      ap (λ n. get_or (take (suc at) text) (n - 1) 10) size ∙ ap (λ n. get_or (take (suc at) text) n 10) one
      ∙ get_or-take (suc at) text at 10 (omega arith) ∙ get_or_default text at 10 0 (omega (arith, is.within))
      ∙ ap (λ n. get_or text n 0) (sym one) ∙ feed.1 in
      let none : unended_lines (take (suc at) text) ≡ 0 = grind (arith, common_steps, last) in
      omega (arith, none, is.ends)
]

-- the next line feed ends a line
pub next_start : (text : List ℕ) (number at end : ℕ) → IsLineStart text number at → at + end < length text
    → ((k : ℕ) → k < end → get_or text (at + k) 0 ≢ 10) → get_or text (at + end) 0 ≡ 10
    → IsLineStart text (number + 1) (at + (end + 1))
next_start text number at end is within none feed =
    let before = no_ends_more text at end (omega (arith, within)) none in
    let more = count_by_more_yes (λ (byte : ℕ). byte == 10) text (at + end) 0 within
    (grind (arith, common_steps, feed)) in
    let next : at + (end + 1) ≡ at + end + 1 = omega arith in
    let last : at + (end + 1) - 1 ≡ at + end = omega arith in
    record {
      within = omega (arith, within);
      after = inr (omega arith, ap (slice_index text) last ∙ feed);
      ends = ap (λ n. line_ends (take n text)) next ∙ more ∙ ap (λ n. n + 1) (before ∙ is.ends);
    }

-- where no line feed follows, at most one line does
pub last_start : (text : List ℕ) (number at : ℕ) → IsLineStart text number at
    → ((k : ℕ) → at + k < length text → get_or text (at + k) 0 ≢ 10) → line_count text ≤ number + 1
last_start text number at is none =
    let left : at + (length text - at) ≡ length text = omega (arith, is.within) in
    let none_left = no_ends_more text at (length text - at) (omega (arith, left))
    (λ k lt. none k (omega (arith, lt, is.within))) in
    let ends : line_ends text ≡ number =
    ap line_ends (sym (take_all (length text) text (omega arith)))
    ∙ ap (λ n. line_ends (take n text)) (sym left) ∙ none_left ∙ is.ends in
    let one : unended_lines text ≤ 1 = grind (arith, common_steps) in
    omega (arith, one, ends)
