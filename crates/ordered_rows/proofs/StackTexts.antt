-- Rows whose stacks are texts, which are rows by their stack texts.
use Rattle.std.proofs.lemmas.List.Elements.{All-map, recursion_from_All}
use Rattle.std.specs.Prelude.{AllPairs, ◌≢◌, All}
use Rattle.profile_rows.specs.Aggregate.{AreWeighty, Weighted}
use Rattle.ordered_rows.specs.StackOrder.{IsJoined}
use Rattle.ordered_rows.specs.SpelledRows.{IsStackText, AreJoinedTexts, AreTextRows, rows_with, spelled_rows}
use Rattle.std.proofs.lemmas.Grind.{common_steps}
use Rattle.std.proofs.Common.{◌≡◌, ℕ, suc, ◌<◌, ◌≤◌, cond, List, [], ◌∷◌, length, get_or, map, refl, sym, ap, ◌∙◌}
use Rattle.std.proofs.Common.{arith}
use Rattle.std.specs.List.{AllByRecursion, join_with_byte}
use Rattle.std.specs.Str.{bytes_eq}
use Rattle.std.proofs.lemmas.List.{get_or-map, length-map}
use Rattle.std.proofs.lemmas.List.Sums.{sum_by-cons}
use Rattle.profile_rows.specs.declared.stack_texts.StackText.{StackText}
use Rattle.profile_rows.specs.declared.weighted_stacks.WeightedStack.{WeightedStack}
use Rattle.profile_rows.specs.Merging.{no_row}
use Rattle.profile_rows.specs.Names.{IsName}
use Rattle.profile_rows.specs.StackTexts.{AreStackTexts, TextState, joined_row, plain_text}
use Rattle.profile_rows.proofs.SameNames.{same_from_is_same_name}
use Rattle.ordered_rows.specs.StackFrames.{frames_of}
use Rattle.ordered_rows.proofs.SpelledRows.{has}
use Rattle.ordered_rows.proofs.Joined.{frames_of-joined, joined_plain}

abbrev Named : WeightedStack → Type 0
Named row = All IsName row.stack

-- ---- texts that differ stand once each

none : (text : List ℕ) (rows : List TextState)
    → ((j : ℕ) (d : TextState) → j < length rows → (get_or rows j d).text ≡ text → ⊥) → rows_with text rows ≡ 0
none text [] other = refl
none text (row ∷ rows) other =
    let rest = none text rows (λ j d lt. other (suc j) d (omega (arith, lt))) in
    let here : row.text ≡ text → ⊥ = other 0 row (omega arith) in
    grind (arith, common_steps, sum_by-cons, same_from_is_same_name text row.text, rest, here)

once : (rows : List TextState)
    → ((i j : ℕ) (d : TextState) → i < j → j < length rows → (get_or rows i d).text ≡ (get_or rows j d).text → ⊥)
    → (text : List ℕ) → rows_with text rows ≤ 1
once [] apart text = omega arith
once (row ∷ rows) apart text =
    let most = once rows
    (λ i j d before lt. apart (suc i) (suc j) d (omega (arith, before)) (omega (arith, lt))) text in
    let alone : rows_with row.text rows ≡ 0 =
    none row.text rows (λ j d lt same. apart 0 (suc j) d (omega arith) (omega (arith, lt)) (sym same)) in
    grind (arith, common_steps, sum_by-cons, same_from_is_same_name text row.text, most, alone)

-- ---- the rows that texts spell

-- a joined stack of names, cut again, is the stack
cut_again : (row : WeightedStack) → Named row → frames_of (join_with_byte 59 row.stack) ≡ row.stack
cut_again row named = frames_of-joined row.stack (recursion_from_All IsName row.stack named)

cut_joined : (rows : List WeightedStack) → AllByRecursion Named rows → spelled_rows (map joined_row rows) ≡ rows
cut_joined [] all = refl
cut_joined (row ∷ rows) all = grind (arith, common_steps, cut_again row all.0, cut_joined rows all.1)

-- the texts of stacks that differ, joined of names
joined_texts : (rows : List WeightedStack) → AreWeighty rows
    → AllPairs (λ (a b : WeightedStack). a.stack ≢ b.stack) rows → All Named rows → AreTextRows (map joined_row rows)
joined_texts rows weighty apart named = record {
  weighty = All-map (λ (row : TextState). 0 < row.weight) joined_row rows weighty;
  once = once (map joined_row rows) (λ i j d before lt same.
      apart i j no_row before (omega (arith, lt, length-map rows joined_row))
      (cut_at i d (omega (arith, before, lt)) ∙ ap frames_of same ∙ sym (cut_at j d lt)));
  joined = All-map (λ (row : TextState). IsJoined row.text) joined_row rows
      (λ k d lt. ap (join_with_byte 59) (sym (cut_again (get_or rows k d) (named k d lt))));
}
  where
    cut_at : (k : ℕ) (d : TextState) → k < length (map joined_row rows)
        → (get_or rows k no_row).stack ≡ frames_of (get_or (map joined_row rows) k d).text
    cut_at k d lt =
        let within : k < length rows = omega (arith, lt, length-map rows joined_row) in
        sym (ap (λ (row : TextState). frames_of row.text) (get_or-map joined_row rows k no_row d within)
        ∙ cut_again (get_or rows k no_row) (named k no_row within))

module _ (weights : Weighted) (texts : List StackText)
    (are : AreStackTexts weights texts) (rows : List TextState) (lent : rows ≡ map plain_text texts) where
  spelled : rows ≡ map joined_row are.rows
  spelled = lent ∙ are.spelled

  pub spelled_are : spelled_rows rows ≡ are.rows
  spelled_are = ap spelled_rows spelled ∙ cut_joined are.rows (recursion_from_All Named are.rows are.named)

  pub AreTextRows-lent : AreTextRows rows
  AreTextRows-lent = rw spelled (joined_texts are.rows are.weighty are.apart are.named)

  pub AreJoinedTexts-lent : AreJoinedTexts rows
  AreJoinedTexts-lent = rw spelled (All-map (λ (row : TextState). IsStackText row.text × IsJoined row.text)
      joined_row are.rows (λ k d lt.
      let cut = cut_again (get_or are.rows k d) (are.named k d lt) in (
        (
          omega (arith, are.deep k d lt, ap length cut),
          joined_plain (get_or are.rows k d).stack (recursion_from_All IsName _ (are.named k d lt)),
        ),
        ap (join_with_byte 59) (sym cut),
      )))
