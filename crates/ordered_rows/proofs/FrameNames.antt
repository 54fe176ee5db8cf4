-- The frames of a stack text: each can be a name.
use Rattle.std.proofs.lemmas.Grind.{common_steps}
use Rattle.std.proofs.Common.{arith, ◌≡◌, ◌≢◌, ℕ, ◌<◌, Bool, false, eqb, List, length, All, lit<}
use Rattle.std.specs.List.{slice_split, AllByRecursion}
use Rattle.std.proofs.lemmas.List.Elements.{All-filter, All-from_recursion, filter_passes, recursion_from_All}
use borrow.Author.Tests.{eqb-false}
use Rattle.std.specs.Prelude.{◌==◌, not}
use Rattle.std.specs.Str.{IsUtf8}
use Rattle.ordered_rows.specs.StackFrames.{frames_of}
use Rattle.profile_rows.specs.Names.{IsName}
use Rattle.ordered_rows.proofs.Pieces.{pieces, pieces-IsUtf8}

abbrev is_full : List ℕ → Bool
is_full part = not (length part == 0)

-- what the pieces of a text have, its frames have
of_pieces : (P : List ℕ → Type 0) (text : List ℕ)
    → AllByRecursion P (slice_split (λ byte. eqb byte 59) text) → All P (frames_of text)
of_pieces P text all =
    let pieces = slice_split (λ byte. eqb byte 59) text in All-filter is_full P pieces (All-from_recursion P pieces all)

-- what the bytes of a text have that are no semicolons, the bytes of its frames have
frames_of-bytes : (Q : ℕ → Type 0) (text : List ℕ)
    → All (λ byte. eqb byte 59 ≡ false → Q byte) text → All (All Q) (frames_of text)
frames_of-bytes Q text all = of_pieces (All Q) text
    (pieces (λ byte. eqb byte 59) Q text (recursion_from_All (λ byte. eqb byte 59 ≡ false → Q byte) text all))

-- no frame is empty
pub frames_of-some : (text : List ℕ) → All (λ frame. 0 < length frame) (frames_of text)
frames_of-some text = λ k d lt.
    grind (arith, common_steps, filter_passes is_full (slice_split (λ byte. eqb byte 59) text) k d lt)

-- no frame holds a semicolon
pub frames_of-plain : (text : List ℕ) → All (All (λ byte. byte ≢ 59)) (frames_of text)
frames_of-plain text = frames_of-bytes (λ byte. byte ≢ 59) text (λ k d lt. eqb-false _ 59)

-- each frame of a text without a line feed can be a name
pub frames_of-IsName : (text : List ℕ) → IsUtf8 text → All (λ byte. byte ≢ 10) text → All IsName (frames_of text)
frames_of-IsName text utf8 one_line = λ k d lt. record {
  utf8 = of_pieces IsUtf8 text (pieces-IsUtf8 59 text (lit< tt) utf8) k d lt;
  not_empty = frames_of-some text k d lt;
  no_separator = frames_of-plain text k d lt;
  no_line_feed = frames_of-bytes (λ byte. byte ≢ 10) text (λ i e below _. one_line i e below) k d lt;
}
