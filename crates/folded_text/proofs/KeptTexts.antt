-- Rows of which each stack text is kept.
use Rattle.std.proofs.lemmas.Grind.{common_steps}
use Rattle.std.proofs.Common.{◌≡◌, ℕ, ◌+◌, ◌^◌, ◌<◌, ◌≤◌, Bool, List, [], ◌∷◌, ◌++◌, All, length, get_or, set, arith}
use Rattle.std.proofs.Common.{refl, sym, ap, ◌∙◌, Option, None, Some, slice_get, position}
use Rattle.std.specs.Prelude.{MatchOption, String, string_bytes}
use Rattle.std.specs.Option.{is_some}
use Rattle.std.specs.Map.{keys_of, values_of, lookup}
use Rattle.std.specs.Str.{bytes_eq}
use Rattle.std.proofs.lemmas.List.{get_or_default, length-map, map-append}
use Rattle.std.proofs.lemmas.List.Elements.{All-push}
use Rattle.std.proofs.lemmas.List.Quantifiers.{position-Some}
use Rattle.std.proofs.lemmas.List.Sums.{sum_by-cons, sum_by_push}
use Prim.Native.Nat.{zero, suc}
use Rattle.indexmap.specs.Layout.{set_value_at}
use Rattle.profile_rows.specs.declared.weighted_stacks.WeightedStack.{WeightedStack}
use Rattle.profile_rows.specs.Merging.{IsStackAt, row_at, with_added_at}
use Rattle.profile_rows.specs.Rows.{total_of}
use Rattle.profile_rows.specs.StackTexts.{TextState}
use Rattle.profile_rows.proofs.MergedRows.{AddsRow-added}
use Rattle.profile_rows.proofs.SameNames.{same_from_is_same_name}
use Rattle.ordered_rows.specs.StackFrames.{frames_of}
use Rattle.folded_text.specs.LineSums.{AreKeptTexts, kept_row, kept_rows}
use Rattle.ordered_rows.specs.SpelledRows.{IsStackText, rows_with, spelled_row, spelled_rows}
use Rattle.folded_text.proofs.TextRows.{spelled-added, weight-within}

abbrev none : TextState
none = record { text = []; weight = 0 }

module _ {Z : Type 0} (text : List ℕ) where
  abbrev pub is_key : String Z → Bool
  is_key key = bytes_eq text (string_bytes key)

  -- a text that isn't found has no row
  pub rows_with-none : (entries : List (String Z × ℕ))
      → lookup is_key entries ≡ None → rows_with text (kept_rows entries) ≡ 0
  rows_with-none [] absent = refl
  rows_with-none (entry ∷ entries) absent =
      grind (arith, common_steps, sum_by-cons, rows_with-none entries)

  -- and a text without a row isn't found
  pub lookup-none : (entries : List (String Z × ℕ))
      → rows_with text (kept_rows entries) ≡ 0 → lookup is_key entries ≡ None
  lookup-none [] absent = refl
  lookup-none (entry ∷ entries) absent = grind (arith, common_steps, sum_by-cons, lookup-none entries)

  text_at : (entries : List (String Z × ℕ)) (at : ℕ) (key : String Z) → at < length entries
      → (get_or (kept_rows entries) at none).text ≡ string_bytes (get_or (keys_of entries) at key)
  text_at [] at key lt = absurd (omega (arith, lt))
  text_at (entry ∷ entries) zero key lt = refl
  text_at (entry ∷ entries) (suc at) key lt = text_at entries at key (omega (arith, lt))

  module _ (entries : List (String Z × ℕ)) (total : ℕ) (kept : AreKeptTexts (kept_rows entries) total) where
    kept_at : (at : ℕ) (key : String Z)
        → position is_key (keys_of entries) ≡ Some at → IsStackAt (spelled_rows (kept_rows entries)) (frames_of text) at
    kept_at at key found =
        let (lt, is, first) = position-Some is_key (keys_of entries) at key found in
        let within : at < length entries = omega (arith, lt, length-map entries (λ e. e.0)) in
        let same : text ≡ string_bytes (get_or (keys_of entries) at key) =
        same_from_is_same_name text (string_bytes (get_or (keys_of entries) at key)) is in
        let row : text ≡ (get_or (kept_rows entries) at none).text = same ∙ sym (text_at entries at key within) in
        let deep = kept.spelled at none (omega (arith, within, length-map entries (kept_row {Z = Z}))) in
        grind (arith, common_steps)

    -- the row of a text, where the text is found
    pub row_found : (result : Option ℕ) → result ≡ position is_key (keys_of entries)
        → is_some result ≡ is_some (lookup is_key entries)
        → MatchOption result (rows_with text (kept_rows entries) ≡ 0)
        (IsStackAt (spelled_rows (kept_rows entries)) (frames_of text))
    row_found None is same = rows_with-none entries (grind (arith, common_steps))
    row_found (Some at) is same = by entries is
      where
        by : (all : List (String Z × ℕ)) → Some at ≡ position is_key (keys_of all)
            → IsStackAt (spelled_rows (kept_rows entries)) (frames_of text) at
        by [] is = absurd (grind (arith, common_steps))
        by (entry ∷ all) found = kept_at at entry.0 (sym is)

-- ---- a row that weighs more

module _ {Z : Type 0} where
  value-set : (entries : List (String Z × ℕ)) (at weight : ℕ) → kept_rows (set_value_at entries at weight)
      ≡ set (kept_rows entries) at (record { text = (get_or (kept_rows entries) at none).text; weight = weight })
  value-set [] at weight = refl
  value-set (entry ∷ entries) zero weight = refl
  value-set (entry ∷ entries) (suc at) weight = ap (λ rows. kept_row entry ∷ rows) (value-set entries at weight)

  value-at : (entries : List (String Z × ℕ)) (at weight : ℕ)
      → slice_get (values_of entries) at ≡ Some weight → (get_or (kept_rows entries) at none).weight ≡ weight
  value-at [] at weight is = grind (arith, common_steps)
  value-at (entry ∷ entries) zero weight is = grind (arith, common_steps)
  value-at (entry ∷ entries) (suc at) weight is = grind (arith, common_steps, value-at entries at weight)

  module _ (entries : List (String Z × ℕ)) (at before weight total : ℕ) (lt : at < length (kept_rows entries))
      (is : slice_get (values_of entries) at ≡ Some before) (fits : total + weight < 2 ^ 63)
      (kept : AreKeptTexts (kept_rows entries) total) where
    abbrev rows : List TextState
    rows = kept_rows entries

    abbrev found : TextState
    found = get_or rows at none

    abbrev heavier : List TextState
    heavier = set rows at (record { text = found.text; weight = found.weight + weight })

    rows-added : kept_rows (set_value_at entries at (before + weight)) ≡ heavier
    rows-added = value-set entries at (before + weight)
        ∙ ap (λ w. set rows at (record { text = found.text; weight = w + weight }))
        (sym (value-at entries at before is))

    spelled_heavier : spelled_rows heavier ≡ with_added_at (spelled_rows rows) at weight
    spelled_heavier = spelled-added rows at weight found lt (get_or_default rows at none found lt)

    -- the row weighs so much more
    pub spelled-set : spelled_rows (kept_rows (set_value_at entries at (before + weight)))
        ≡ with_added_at (spelled_rows rows) at weight
    spelled-set = ap spelled_rows rows-added ∙ spelled_heavier

    spelled_in_heavier : All (λ (row : TextState). IsStackText row.text) heavier
    spelled_in_heavier = grind (arith, common_steps, kept.spelled)

    pub AreKeptTexts-added : AreKeptTexts (kept_rows (set_value_at entries at (before + weight))) (total + weight)
    AreKeptTexts-added =
        let row : WeightedStack = record { stack = (row_at (spelled_rows rows) at).stack; weight = weight } in
        let adds = AddsRow-added (spelled_rows rows) at weight row (omega (arith, lt, length-map rows spelled_row))
        (omega (arith, kept.total_is, fits)) refl in
        record {
          spelled = rw rows-added (spelled_in_heavier);
          total_is = omega (arith, kept.total_is, adds.total, ap total_of spelled-set);
          fits = fits;
        }

    -- which is no less than the row weighs
    pub value-within : before ≤ total
    value-within =
        let most = weight-within rows at weight found lt (get_or_default rows at none found lt) in
        omega (arith, most, value-at entries at before is, kept.total_is)

  -- a row more
  pub AreKeptTexts-push : (entries : List (String Z × ℕ)) (key : String Z) (weight total : ℕ) → total + weight < 2 ^ 63
      → IsStackText (string_bytes key) → AreKeptTexts (kept_rows entries) total
      → AreKeptTexts (kept_rows (entries ++ (key, weight) ∷ [])) (total + weight)
  AreKeptTexts-push entries key weight total fits spelled kept = record {
    spelled = rw (map-append (kept_row {Z = Z}) entries ((key, weight) ∷ []))
        (All-push (λ (row : TextState). IsStackText row.text) (kept_rows entries) (kept_row (key, weight))
        kept.spelled spelled);
    total_is = grind (arith, common_steps, sum_by_push, kept.total_is);
    fits = fits;
  }
