-- Stacks that came before keep the numbers of their names.
use Rattle.std.proofs.lemmas.Grind.{common_steps}
use Rattle.std.proofs.lemmas.Option.{get_or_from_slice_get, slice_get_cases, slice_get_within}
use Rattle.std.proofs.Common.{arith, ◌≡◌, ℕ, zero, suc, ◌<◌, ◌≤◌, List, [], ◌∷◌, ◌++◌, Some, None}
use Rattle.std.proofs.Common.{length, map, refl, sym, ap, ◌∙◌, subst}
use Rattle.std.specs.Prelude.{slice_get, slice_index_or}
use Rattle.name_counts.specs.TextTables.{number_in, with_texts}
use Rattle.name_counts.proofs.TextNumbers.{number_in-le, text_of_number}
use Rattle.profile_samples.specs.KnownStacks.{AreListed, IsKnownStack}
use Rattle.profile_samples.proofs.ExportLaws.{AllStand, number_in-withs, with_texts-stands}
use Rattle.ordered_rows.specs.StackFrames.{frames_of}

-- ---- as more names come

stand_more : (names more frames : List (List ℕ)) → AllStand names frames → AllStand (with_texts names more) frames
stand_more names more [] all = tt
stand_more names more (frame ∷ frames) all =
    (with_texts-stands names more frame all.0, stand_more names more frames all.1)

numbers_more : (names more frames : List (List ℕ)) → AllStand names frames
    → map (number_in (with_texts names more)) frames ≡ map (number_in names) frames
numbers_more names more [] all = refl
numbers_more names more (frame ∷ frames) all =
    rw (number_in-withs names more frame all.0, numbers_more names more frames all.1) refl

pub AreListed-more : (names more texts lists : List (List ℕ))
    → AreListed names texts lists → AreListed (with_texts names more) texts lists
AreListed-more names more [] lists all = all
AreListed-more names more (text ∷ texts) [] all = absurd all
AreListed-more names more (text ∷ texts) (list ∷ lists) all = (
  record {
    there = stand_more names more (frames_of text) all.0.there;
    numbered = all.0.numbered ∙ sym (numbers_more names more (frames_of text) all.0.there);
    fits = all.0.fits;
  },
  AreListed-more names more texts lists all.1,
)

-- frames that are there add no name
pub none_added : (names frames : List (List ℕ)) → AllStand names frames → with_texts names frames ≡ names
none_added names [] all = refl
none_added names (frame ∷ frames) all = rw (all.0) (none_added names frames all.1)

-- ---- a stack more

pub AreListed-push : (names texts lists : List (List ℕ)) (text list : List ℕ) → AreListed names texts lists
    → IsKnownStack names text list → AreListed names (texts ++ text ∷ []) (lists ++ list ∷ [])
AreListed-push names [] [] text list all this = (this, refl)
AreListed-push names [] (other ∷ lists) text list all this = cc
AreListed-push names (first ∷ texts) [] text list all this = absurd all
AreListed-push names (first ∷ texts) (other ∷ lists) text list all this =
    (all.0, AreListed-push names texts lists text list all.1 this)

-- ---- a stack that is looked for

many : (names texts lists : List (List ℕ)) → AreListed names texts lists → length lists ≡ length texts
many names [] lists all = ap length all
many names (text ∷ texts) [] all = absurd all
many names (text ∷ texts) (list ∷ lists) all = ap suc (many names texts lists all.1)

listed_at : (names texts lists : List (List ℕ)) (at : ℕ) → AreListed names texts lists → at < length texts
    → IsKnownStack names (slice_index_or texts at []) (slice_index_or lists at [])
listed_at names [] lists at all lt = absurd (omega (arith, lt))
listed_at names (text ∷ texts) [] at all lt = absurd all
listed_at names (text ∷ texts) (list ∷ lists) zero all lt = all.0
listed_at names (text ∷ texts) (list ∷ lists) (suc at) all lt = listed_at names texts lists at all.1 (omega (arith, lt))

past_all : (lists : List (List ℕ)) (at : ℕ) → slice_get lists at ≡ None → length lists ≤ at
past_all lists at none = grind (arith, common_steps, slice_get_cases lists at)

pub stack_missing : (names texts lists : List (List ℕ)) (text : List ℕ) → AreListed names texts lists
    → None ≡ slice_get lists (number_in texts text) → number_in texts text ≡ length texts
stack_missing names texts lists text all none =
    let end : length lists ≤ number_in texts text = past_all lists (number_in texts text) (sym none) in
    omega (arith, end, many names texts lists all, number_in-le texts text)

pub stack_found : (names texts lists : List (List ℕ)) (text numbers : List ℕ) → AreListed names texts lists
    → Some numbers ≡ slice_get lists (number_in texts text) → IsKnownStack names text numbers
stack_found names texts lists text numbers all is =
    let at = number_in texts text in
    let within : at < length texts =
    subst (λ n. at < n) (many names texts lists all) (slice_get_within lists at numbers (sym is)) in
    subst (λ list. IsKnownStack names text list) (get_or_from_slice_get lists at numbers [] (sym is))
    (subst (λ t. IsKnownStack names t (slice_index_or lists at [])) (text_of_number texts text within)
    (listed_at names texts lists at all within))
