-- The pieces of a list that is cut at some of its elements.
use Rattle.std.proofs.lemmas.Grind.{common_steps}
use Rattle.std.proofs.Common.{◌≡◌, ℕ, ◌+◌, ◌<◌, ◌≤◌, Bool, false, true, eqb, eqb-true, get_or, List, [], ◌∷◌, length}
use Rattle.std.proofs.Common.{length-drop}
use Rattle.std.proofs.Common.{sym, subst, arith, inl, inr}
use Rattle.std.specs.List.{All, AllByRecursion, after_first, before_first, onto_first, position_or_len, slice_split}
use Rattle.std.specs.Str.{IsUtf8}
use Rattle.std.proofs.lemmas.Bool.{cases_lt, false_from_ne_true}
use Rattle.std.proofs.lemmas.List.Elements.{All-cons, All-nil}
use Rattle.std.proofs.lemmas.List.Splits.{slice_split_first, slice_split_none}
use Rattle.std.proofs.lemmas.List.Sums.{fails_before_first, passes_at_first, position_or_len_is}
use Rattle.std.proofs.lemmas.Str.{IsUtf8-take, IsUtf8-drop, IsCharBoundary-before_ascii, IsCharBoundary-after_ascii}
use Prim.Native.Nat.{zero, suc}

onto_first-All : (Q : ℕ → Type 0) (byte : ℕ) (parts : List (List ℕ))
    → Q byte → AllByRecursion (All Q) parts → AllByRecursion (All Q) (onto_first byte parts)
onto_first-All Q byte [] here rest = (All-cons Q byte [] here (All-nil Q), tt)
onto_first-All Q byte (part ∷ parts) here rest = (All-cons Q byte part here rest.0, rest.1)

-- what the bytes between the cuts have, the bytes of each piece have
pub pieces : (p : ℕ → Bool) (Q : ℕ → Type 0) (bytes : List ℕ)
    → AllByRecursion (λ byte. p byte ≡ false → Q byte) bytes → AllByRecursion (All Q) (slice_split p bytes)
pieces p Q [] all = (All-nil Q, tt)
pieces p Q (byte ∷ bytes) all = grind (arith, common_steps, All-nil, onto_first-All, pieces p Q bytes all.1)

-- a list of which no element passes is one piece
pub slice_split-whole : (p : ℕ → Bool) (bytes : List ℕ)
    → length bytes ≤ position_or_len p bytes → slice_split p bytes ≡ bytes ∷ []
slice_split-whole p bytes past = slice_split_none p bytes (λ k d lt. fails_before_first p bytes k d (omega arith))

-- The text up to the first cut and the text after it are texts.
utf8_around : (c : ℕ) (text : List ℕ) → c < 128 → IsUtf8 text
    → position_or_len (λ byte. eqb byte c) text < length text
    → IsUtf8 (before_first (λ byte. eqb byte c) text) × IsUtf8 (after_first (λ byte. eqb byte c) text)
utf8_around c text ascii utf8 lt =
    grind (
      arith,
      common_steps,
      eqb-true,
      passes_at_first,
      IsUtf8-take,
      IsUtf8-drop,
      IsCharBoundary-before_ascii,
      IsCharBoundary-after_ascii,
    )

utf8_pieces : (n : ℕ) (c : ℕ) (text : List ℕ)
    → c < 128 → length text < n → IsUtf8 text → AllByRecursion IsUtf8 (slice_split (λ byte. eqb byte c) text)
utf8_pieces zero c text ascii small utf8 = absurd (omega arith)
utf8_pieces (suc n) c text ascii small utf8 =
    elim (cases_lt (position_or_len (λ byte. eqb byte c) text) (length text)) [
      | inl lt ↦
          let (front, back) = utf8_around c text ascii utf8 lt in
          subst (AllByRecursion IsUtf8) (sym (slice_split_first (λ byte. eqb byte c) text 0 lt)) (
            front,
            utf8_pieces n c (after_first (λ byte. eqb byte c) text) ascii
                (omega (arith, length-drop (position_or_len (λ byte. eqb byte c) text + 1) text)) back,
          )
      | inr past ↦ subst (AllByRecursion IsUtf8) (sym (slice_split-whole (λ byte. eqb byte c) text past)) (utf8, tt)
    ]

-- a text that is cut at an ASCII character is cut into texts
pub pieces-IsUtf8 : (c : ℕ) (text : List ℕ)
    → c < 128 → IsUtf8 text → AllByRecursion IsUtf8 (slice_split (λ byte. eqb byte c) text)
pieces-IsUtf8 c text ascii utf8 = utf8_pieces (length text + 1) c text ascii (omega arith) utf8

-- the first byte that passes a test
pub first_passing : (p : ℕ → Bool) (text : List ℕ) (at : ℕ) → at ≤ length text
    → ((k : ℕ) → k < at → p (get_or text k 0) ≡ true → ⊥) → (at < length text → p (get_or text at 0) ≡ true)
    → position_or_len p text ≡ at
first_passing p text at lt none is =
    position_or_len_is p text at 0 lt (λ k below. false_from_ne_true (p (get_or text k 0)) (none k below)) is
