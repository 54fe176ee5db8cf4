-- Rows by their stack texts, and the report that they make.
use Rattle.std.proofs.lemmas.Grind.{common_steps}
use Rattle.std.proofs.Common.{◌≡◌, ℕ, ◌+◌, ◌<◌, ◌≤◌, ◌^◌, Bool, true, List, [], ◌∷◌, ◌++◌, length}
use Rattle.std.proofs.Common.{map, get_or, set, refl, sym, ap, ◌∙◌, subst, arith}
use Rattle.std.specs.Prelude.{◌==◌, not}
use Rattle.std.specs.List.{list_any}
use Rattle.std.specs.Str.{bytes_eq}
use Rattle.std.proofs.lemmas.List.{length-map, map-set}
use Rattle.std.proofs.lemmas.List.Elements.{All-push}
use Rattle.std.proofs.lemmas.List.Sums.{get_or-le-sum_by, sum_by-cons, sum_by-set, sum_by_push}
use Rattle.std.proofs.Math.Seq.{map-set_same}
use Rattle.profile_rows.specs.declared.weighted_stacks.WeightedStack.{WeightedStack}
use Rattle.profile_rows.specs.Merging.{IsStackAt, no_row, row_at, with_added_at}
use Rattle.profile_rows.specs.Rows.{total_of}
use Rattle.profile_rows.proofs.MergedRows.{AddsRow-added}
use Rattle.name_counts.proofs.TextNumbers.{none_at_end, text_of_number}
use Rattle.name_counts.specs.TextTables.{number_in, with_text}
use Rattle.profile_rows.proofs.SameNames.{same_from_is_same_name}
use Rattle.ordered_rows.specs.StackFrames.{frames_of}
use Rattle.ordered_rows.specs.StackOrder.{IsJoined}
use Rattle.profile_rows.specs.StackTexts.{TextState}
use Rattle.folded_text.specs.TextRows.{AreKnownTexts}
use Rattle.ordered_rows.specs.SpelledRows.{IsStackText, rows_with, spelled_row, spelled_rows}
use Rattle.ordered_rows.proofs.SpelledRows.{has}

-- ---- rows known by their texts

module _ (rows : List TextState)
    (at weight : ℕ) (found : TextState) (lt : at < length rows) (is : found ≡ get_or rows at found) where
  abbrev more : TextState
  more = record { text = found.text; weight = found.weight + weight }

  in_rows : at < length (spelled_rows rows)
  in_rows = omega (arith, length-map rows spelled_row, lt)

  pub spelled-added : spelled_rows (set rows at more) ≡ with_added_at (spelled_rows rows) at weight
  spelled-added = grind (arith, common_steps, map-set)

  pub weight-within : found.weight ≤ total_of (spelled_rows rows)
  weight-within =
      let most = get_or-le-sum_by (λ (r : WeightedStack). r.weight) (spelled_rows rows) at no_row in_rows in
      grind (arith, common_steps)

  pub AreKnownTexts-added : (texts : List (List ℕ)) (total : ℕ) (are_joined : Bool) → total + weight < 2 ^ 63
      → AreKnownTexts texts rows total are_joined → AreKnownTexts texts (set rows at more) (total + weight) are_joined
  AreKnownTexts-added texts total are_joined fits so_far =
      let total_is = so_far.total_is in
      let row : WeightedStack = record { stack = (row_at (spelled_rows rows) at).stack; weight = weight } in
      let adds = AddsRow-added (spelled_rows rows) at weight row in_rows (omega (arith, total_is, fits)) refl in
      record {
        texts_are = so_far.texts_are
            ∙ sym (map-set_same (λ (row : TextState). row.text) rows at more found
            (ap (λ (row : TextState). row.text) is));
        once = λ text. omega (arith, sum_by-set (has text) rows at more found lt, ap (has text) is, so_far.once text);
        weighty = grind (arith, common_steps, so_far.weighty);
        spelled = grind (arith, common_steps, so_far.spelled);
        joined = λ e. grind (arith, common_steps, so_far.joined e);
        total_is = grind (arith, common_steps, adds.total, spelled-added);
        fits = fits;
      }

-- the texts of rows
abbrev pub texts_in : List TextState → List (List ℕ)
texts_in rows = map (λ (row : TextState). row.text) rows

-- a text is listed where it has a row
listed : (rows : List TextState) (text : List ℕ)
    → list_any (bytes_eq text) (texts_in rows) ≡ not (rows_with text rows == 0)
listed [] text = refl
listed (row ∷ rows) text = grind (arith, common_steps, sum_by-cons, listed rows text)

module _ (texts : List (List ℕ)) (rows : List TextState) (total : ℕ) (are_joined : Bool)
    (so_far : AreKnownTexts texts rows total are_joined) (text : List ℕ) (at : ℕ)
    (number : at ≡ number_in texts text) where
  many : length texts ≡ length rows
  many = ap length so_far.texts_are ∙ length-map rows (λ (row : TextState). row.text)

  -- a text whose number is an index has its row there
  pub row_found : (none : TextState) → at < length rows → IsStackAt (spelled_rows rows) (frames_of text) at
  row_found none lt =
      let own = text_of_number texts text in
      let spelled = so_far.spelled at none lt in
      grind (arith, common_steps, so_far.texts_are)

  -- and any other text has none
  pub none_found : length rows ≤ at → rows_with text rows ≡ 0
  none_found end = grind (arith, common_steps, listed rows text, none_at_end, so_far.texts_are)

pub AreKnownTexts-push : (texts after : List (List ℕ)) (rows all : List TextState) (row : TextState) (total : ℕ)
    (are_joined both : Bool) → after ≡ with_text texts row.text → all ≡ rows ++ row ∷ [] → rows_with row.text rows ≡ 0
    → IsStackText row.text
    → 0 < row.weight → total + row.weight < 2 ^ 63 → (both ≡ true → (are_joined ≡ true) × IsJoined row.text)
    → AreKnownTexts texts rows total are_joined → AreKnownTexts after all (total + row.weight) both
AreKnownTexts-push texts after rows all row total are_joined both added is none text some fits joins so_far =
    subst (λ all. AreKnownTexts after all (total + row.weight) both) (sym is) (record {
      texts_are = grind (arith, common_steps, listed rows row.text, so_far.texts_are);
      once = λ text. grind (arith, common_steps, sum_by_push, same_from_is_same_name text row.text, so_far.once text);
      weighty = All-push (λ (row : TextState). 0 < row.weight) rows row so_far.weighty some;
      spelled = All-push (λ (row : TextState). IsStackText row.text) rows row so_far.spelled text;
      joined = λ e. All-push (λ (row : TextState). IsJoined row.text) rows row (so_far.joined (joins e).0) (joins e).1;
      total_is = grind (arith, common_steps, sum_by_push, so_far.total_is);
      fits = fits;
    })
