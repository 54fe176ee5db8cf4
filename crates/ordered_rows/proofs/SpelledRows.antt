-- Rows by their stack texts, in the order of these.
use Rattle.std.proofs.lemmas.Grind.{common_steps}
use Rattle.std.proofs.Common.{◌≡◌, ℕ, ◌+◌, ◌<◌, ◌≤◌, ◌^◌, true, false, cond, eqb, List, [], ◌∷◌, length}
use Rattle.std.proofs.Common.{filter, get_or, refl, sym, ap, ◌∙◌, take, arith, length-append}
use Rattle.std.specs.Prelude.{IfOk, IsPermutation, IsSorted, Option, Result, Ok, Err, ◌==◌, not, sum_by}
use Rattle.std.specs.List.{join_with_byte, slice_split}
use Rattle.std.specs.Str.{bytes_eq}
use Rattle.std.specs.declared.cmp.Ordering.TheVariants.{Less}
use Rattle.std.specs.Ordering.{is_lt}
use Rattle.std.proofs.lemmas.List.{length-map}
use Rattle.std.proofs.lemmas.List.Elements.{All-map}
use Rattle.std.proofs.lemmas.List.Sorted.{All-permutation, IsPermutation-map, ranks_by, sorted_far}
use Rattle.std.proofs.lemmas.List.Sorted.{sum_by-IsPermutation}
use Rattle.std.proofs.lemmas.List.Splits.{join_with_byte-slice_split, length-slice_split}
use Rattle.std.proofs.lemmas.List.Sums.{get_or-le-sum_by, sum_by-cons}
use Prim.Native.Nat.{zero, suc}
use Rattle.profile_rows.specs.declared.weighted_stacks.WeightedStack.{WeightedStack}
use Rattle.profile_rows.specs.Aggregate.{AreWeighty, IsAscending, aggregate_of, rows_of}
use Rattle.profile_rows.specs.Rows.{is_kept, kept_rows, stack_cmp, total_of}
use Rattle.profile_rows.proofs.InOrder.{rows_of-aggregate}
use Rattle.profile_rows.proofs.Kept.{weight_where-kept-le}
use Rattle.profile_rows.proofs.RowLaws.{aggregate_of-same, stack_cmp_apart, stack_cmp_total}
use Rattle.profile_rows.proofs.SameNames.{is_same_name-self}
use Rattle.profile_rows.specs.StackTexts.{TextState}
use Rattle.std.proofs.lemmas.List.{take-map}
use Rattle.std.proofs.lemmas.List.Sums.{sum_by_more_le}
use Rattle.ordered_rows.specs.StackFrames.{frames_of}
use Rattle.ordered_rows.specs.StackOrder.{IsJoined, stack_text_cmp}
use Rattle.ordered_rows.specs.SpelledRows.{AreTextRows, by_text, rows_with, spelled_row, spelled_rows}
use Rattle.ordered_rows.proofs.StackOrder.{joined_texts-cmp, stack_text_cmp_total}

-- ---- texts that are their frames, joined

abbrev full : List (List ℕ) → List (List ℕ)
full parts = filter (λ part. not (length part == 0)) parts

length-joined : (parts : List (List ℕ))
    → 0 < length parts → length (join_with_byte 59 parts) + 1 ≡ sum_by length parts + length parts
length-joined [] some = absurd (omega arith)
length-joined (part ∷ []) some = omega (arith, sum_by-cons length part [])
length-joined (part ∷ next ∷ parts) some =
    grind (arith, common_steps, sum_by-cons, length-append, length-joined (next ∷ parts) (omega arith))

-- the bytes of the parts that aren't empty, and one for each of them, are no more than those of all
full-within : (parts : List (List ℕ))
    → sum_by length (full parts) + length (full parts) ≤ sum_by length parts + length parts
full-within [] = omega arith
full-within ([] ∷ parts) = omega (arith, sum_by-cons length [] parts, full-within parts)
full-within ((byte ∷ part) ∷ parts) = grind (arith, common_steps, sum_by-cons, full-within parts)

-- where they are as many, no part is empty
full-all : (parts : List (List ℕ))
    → sum_by length (full parts) + length (full parts) ≡ sum_by length parts + length parts → full parts ≡ parts
full-all [] same = refl
full-all ([] ∷ parts) same = absurd (omega (arith, same, sum_by-cons length [] parts, full-within parts))
full-all ((byte ∷ part) ∷ parts) same = grind (arith, common_steps, sum_by-cons, full-all parts)

abbrev parts_of : List ℕ → List (List ℕ)
parts_of text = slice_split (λ byte. eqb byte 59) text

parts-length : (text : List ℕ) → length text + 1 ≡ sum_by length (parts_of text) + length (parts_of text)
parts-length text =
    let some : 0 < length (parts_of text) = omega (arith, length-slice_split (λ byte. eqb byte 59) text) in
    omega (arith, ap length (join_with_byte-slice_split 59 text), length-joined (parts_of text) some)

-- the bytes of the frames, and one for each, are no more than those of the text and one
pub frames-within : (text : List ℕ) → sum_by length (frames_of text) + length (frames_of text) ≤ length text + 1
frames-within text = omega (arith, parts-length text, full-within (parts_of text))

-- where they are as many, no part was left out
pub IsJoined-measured : (text : List ℕ)
    → sum_by length (frames_of text) + length (frames_of text) ≡ length text + 1 → IsJoined text
IsJoined-measured text whole =
    let all = full-all (parts_of text) (omega (arith, whole, parts-length text)) in
    sym (join_with_byte-slice_split 59 text) ∙ ap (join_with_byte 59) (sym all)

-- ---- rows by their texts

-- 1 where the row has the text
abbrev pub has : List ℕ → TextState → ℕ
has text row = cond (bytes_eq text row.text) 1 0

-- a row follows those before it within the limit that all of them keep
pub follows : (rows : List TextState) (i : ℕ) (d : TextState) → i < length rows
    → total_of (spelled_rows rows) < 2 ^ 63 → total_of (spelled_rows (take i rows)) + (get_or rows i d).weight < 2 ^ 63
follows rows i d lt fits =
    let within = sum_by_more_le (λ (row : WeightedStack). row.weight) (spelled_rows rows) i (spelled_row d) in
    grind (arith, common_steps, within, take-map)

-- sorted rows add up to the same
pub spelled-moved : (rows sorted : List TextState) → IsPermutation rows sorted → (aggregate_of (spelled_rows sorted)
    ≡ aggregate_of (spelled_rows rows)) × (total_of (spelled_rows sorted) ≡ total_of (spelled_rows rows))
spelled-moved rows sorted moved =
    grind (arith, common_steps, sum_by-IsPermutation, aggregate_of-same, IsPermutation-map)

-- ---- rows in the order of their texts

AreTextRows-moved : (rows sorted : List TextState) → IsPermutation rows sorted → AreTextRows rows → AreTextRows sorted
AreTextRows-moved rows sorted moved texts = record {
  weighty = All-permutation (λ (row : TextState). 0 < row.weight) rows sorted moved texts.weighty;
  once = λ text. omega (arith, sum_by-IsPermutation (has text) rows sorted moved, texts.once text);
  joined = All-permutation (λ (row : TextState). IsJoined row.text) rows sorted moved texts.joined;
}

at_least : (text : List ℕ) (rows : List TextState) (j : ℕ) (d : TextState)
    → j < length rows → (get_or rows j d).text ≡ text → 1 ≤ rows_with text rows
at_least text rows j d lt same =
    grind (arith, common_steps, get_or-le-sum_by (has text) rows j d lt, is_same_name-self)

-- rows of which each text has one have different texts
apart : (rows : List TextState) (i j : ℕ) (d : TextState) → i < j → j < length rows
    → ((text : List ℕ) → rows_with text rows ≤ 1) → (get_or rows i d).text ≡ (get_or rows j d).text → ⊥
apart [] i j d before lt once same = absurd (omega arith)
apart (row ∷ rows) i zero d before lt once same = absurd (omega arith)
apart (row ∷ rows) zero (suc j) d before lt once same =
    let other = at_least row.text rows j d (omega arith) (sym same) in
    let own = at_least row.text (row ∷ []) 0 d (omega arith) refl in
    absurd (omega (arith, sum_by-cons (has row.text) row rows, other, once row.text, own))
apart (row ∷ rows) (suc i) (suc j) d before lt once same =
    apart rows i j d (omega arith) (omega arith)
    (λ text. omega (arith, sum_by-cons (has text) row rows, once text)) same

-- a joined text that doesn't come after another one has the lower stack
before : (text other : List ℕ) → IsJoined text → IsJoined other → is_lt (stack_text_cmp other text) ≡ false
    → (text ≡ other → ⊥) → stack_cmp (frames_of text) (frames_of other) ≡ Less
before text other joined also low unlike =
    let tie = stack_cmp_apart (frames_of other) (frames_of text) in
    grind (
      arith,
      common_steps,
      joined_texts-cmp other text also joined,
      tie,
      stack_cmp_total.antisymm (frames_of text) (frames_of other),
    )

-- rows in the order of their texts are in the order of their stacks
ascending : (rows : List TextState) → AreTextRows rows → IsSorted by_text rows → IsAscending (spelled_rows rows)
ascending rows texts sorted = λ i j d lt short.
    let within : j < length rows = omega (arith, length-map rows spelled_row, short) in
    let e : TextState = record { text = []; weight = 0 } in
    let low = sorted_far (λ a b. is_lt (by_text a b))
    (ranks_by stack_text_cmp_total (λ (row : TextState). row.text)) rows sorted i j e (omega (arith, lt)) within in
    let less = before (get_or rows i e).text (get_or rows j e).text (texts.joined i e (omega (arith, lt, within)))
    (texts.joined j e within) low (apart rows i j e lt within texts.once) in
    grind (arith, common_steps, less)

-- rows in the order of their texts are the rows of their aggregate
pub spelled-sorted : (rows sorted : List TextState) → AreTextRows rows → IsPermutation rows sorted
    → IsSorted by_text sorted → spelled_rows sorted ≡ rows_of (aggregate_of (spelled_rows rows))
spelled-sorted rows sorted texts moved up =
    let after = AreTextRows-moved rows sorted moved texts in
    let some : AreWeighty (spelled_rows sorted) =
    All-map (λ (row : WeightedStack). 0 < row.weight) spelled_row sorted after.weighty in
    sym (rows_of-aggregate (spelled_rows sorted) (ascending sorted after up) some)
    ∙ ap rows_of (spelled-moved rows sorted moved).0

-- ---- what a focus and an ignored name leave of them

pub spelled-kept : (focus ignored : Option (List ℕ)) (rows : List TextState)
    → spelled_rows (filter (λ (row : TextState). is_kept focus ignored (frames_of row.text)) rows)
    ≡ kept_rows focus ignored (spelled_rows rows)
spelled-kept focus ignored [] = refl
spelled-kept focus ignored (row ∷ rows) = grind (arith, common_steps, spelled-kept focus ignored rows)

-- what is kept weighs no more than all of them
pub kept-le : (focus ignored : Option (List ℕ)) (rows : List TextState)
    → total_of (spelled_rows (filter (λ (row : TextState). is_kept focus ignored (frames_of row.text)) rows))
    ≤ total_of (spelled_rows rows)
kept-le focus ignored rows =
    let most = weight_where-kept-le focus ignored (λ stack. true) (spelled_rows rows) in
    omega (arith, most, ap total_of (spelled-kept focus ignored rows))

-- what is made where all is well is another thing where the two are the same
pub as_text : {T E V : Type 0} (seen : T → V) (outcome : Result T E) (given other : V)
    → given ≡ other → IfOk outcome (λ made. seen made ≡ given) → IfOk outcome (λ made. seen made ≡ other)
as_text seen (Ok made) given other same is = is ∙ same
as_text seen (Err fault) given other same is = tt
