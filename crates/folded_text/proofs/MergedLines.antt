-- A line's row put to the row of its stack.
use Rattle.std.proofs.lemmas.Grind.{common_steps}
use Rattle.std.proofs.Common.{arith, ℕ, ◌+◌, List, length, refl}
use Rattle.std.specs.Prelude.{Result, Ok, Err, MatchResult}
use Rattle.profile_rows.specs.declared.weighted_stacks.WeightedStack.{WeightedStack}
use Rattle.folded_text.specs.declared.folded.FoldedFault.{FoldedFault}
use Rattle.folded_text.specs.declared.folded.FoldedFault.TheVariants.{Heavy}
use Rattle.profile_rows.specs.Merging.{IsStackAt}
use Rattle.profile_rows.specs.Rows.{total_of}
use Rattle.profile_rows.specs.StackTexts.{TextState}
use Rattle.profile_rows.proofs.MergedRows.{AddsRow-added}
use Rattle.folded_text.specs.FoldedText.{HasWeight, IsLineFault}
use Rattle.ordered_rows.specs.StackFrames.{frames_of}
use Rattle.folded_text.specs.TextRows.{AddsLine, IsTooHeavy, WeighsMoreAt}
use Rattle.ordered_rows.specs.SpelledRows.{spelled_rows}
use Rattle.folded_text.proofs.Reading.{IsLineFault-fitting, IsRowLine-read}

-- the row of the line's stack weighs more now, or can weigh no more
pub added_to : (at weight number : ℕ) (line text : List ℕ) (old new : List TextState)
    (outcome : Result (Unit {0}) FoldedFault)
    → HasWeight line text weight → IsStackAt (spelled_rows old) (frames_of text) at
    → MatchResult outcome (λ done. WeighsMoreAt at weight old new)
    (IsTooHeavy number (total_of (spelled_rows old) + weight))
    → MatchResult outcome (λ done. AddsLine line old new) (IsLineFault (total_of (spelled_rows old)) number line)
added_to at weight number line text old new (Ok done) this there more =
    let row : WeightedStack = record { stack = frames_of text; weight = weight } in (
      row,
      IsRowLine-read line text weight this there.2,
      rw more.added
          (AddsRow-added (spelled_rows old) at weight row there.0 more.fits (grind (arith, common_steps, there.1))),
    )
added_to at weight number line text old new (Err fault) this there heavy =
    rw heavy.0 (IsLineFault-fitting (total_of (spelled_rows old)) number line text (length (frames_of text)) weight
    (Heavy number) this refl (refl, there.2, heavy.1))
