-- Where the first semicolon stands, the pieces are what stands before it, and those after it.
use Rattle.std.specs.List.{after_first, before_first, slice_split}
use Rattle.std.proofs.lemmas.List.Splits.{slice_split_first}
use Rattle.ordered_rows.proofs.Pieces.{first_passing, slice_split-whole}
use Rattle.std.proofs.Common.{subst, ◌≡◌, ℕ, ◌+◌, ◌<◌, Bool, true, List, [], ◌∷◌, ◌++◌, length, take, drop, get_or}
use Rattle.std.proofs.Common.{filter, sym, ap, ◌∙◌, arith}
use Rattle.std.proofs.lemmas.Grind.{common_steps}
use Rattle.std.specs.Prelude.{◌==◌, not}
use Rattle.std.proofs.lemmas.Bool.{eqb-true}
use Rattle.std.proofs.lemmas.List.{append-nil}
use Rattle.std.proofs.lemmas.List.Elements.{filter-append}
use Rattle.std.proofs.lemmas.Str.{IsCharBoundary-after_ascii}
use Rattle.ordered_rows.specs.StackFrames.{frame_in, frames_of}
use Rattle.ordered_rows.proofs.stack_frames.split_piece.Goals as goal

abbrev IsEnd : ℕ → Bool
IsEnd byte = byte == 59

-- a text cut at its first semicolon
cut : (text : List ℕ) (at : ℕ)
    → at < length text → ((k : ℕ) → k < at → IsEnd (get_or text k 0) ≡ true → ⊥) → IsEnd (get_or text at 0) ≡ true
    → frames_of text ≡ frame_in (take at text) ++ frames_of (drop (at + 1) text)
cut text at lt none is =
    let here = first_passing IsEnd text at (omega arith) none (λ _. is) in
    subst (λ at. frames_of text ≡ frame_in (take at text) ++ frames_of (drop (at + 1) text)) here
    (ap (filter (λ piece. not (length piece == 0))) (slice_split_first IsEnd text 0 (omega arith))
    ∙ filter-append (λ piece. not (length piece == 0)) (before_first IsEnd text ∷ [])
    (slice_split IsEnd (after_first IsEnd text)))

pub range_from-requires : goal.range_from-requires
range_from-requires c = grind (arith, common_steps, eqb-true, IsCharBoundary-after_ascii)

pub returns-in-Some : goal.returns-in-Some
returns-in-Some c = grind (arith, common_steps, cut)

-- without a semicolon the text is one piece
whole_piece : (text : List ℕ)
    → ((k : ℕ) → k < length text → IsEnd (get_or text k 0) ≡ true → ⊥) → frames_of text ≡ frame_in text ++ frames_of []
whole_piece text none =
    let past = first_passing IsEnd text (length text) (omega arith) none (λ lt. absurd (omega arith)) in
    ap (filter (λ piece. not (length piece == 0))) (slice_split-whole IsEnd text (omega arith))
    ∙ sym (append-nil (frame_in text))

pub returns-in-None-clause-frames : goal.returns-in-None-clause-frames
returns-in-None-clause-frames c = grind (arith, common_steps, whole_piece)
