-- Lists stay as they are where more come.
use Rattle.std.proofs.lemmas.Grind.{common_steps}
use Rattle.std.proofs.Common.{arith, ℕ, List, ◌≡◌, ◌≤◌, ◌++◌, ◌∷◌, [], All, length, map}
use Rattle.std.proofs.lemmas.List.{map-append}
use Rattle.std.proofs.lemmas.List.Elements.{All-push, All-weaker}
use Rattle.basics.specs.declared.spans.Span.{Span}
use Rattle.basics.specs.Spans.{Grows, IsWithin, items_at}
use Rattle.basics.proofs.Growing.{items_grown, map_agreeing, within_grown}

pub lists_grown : (old new : List ℕ) → Grows old new → (spans : List Span) → All (IsWithin old) spans
    → map (items_at new) spans ≡ map (items_at old) spans
lists_grown old new more spans h = grind (arith, common_steps, items_grown, map_agreeing, All-weaker)

-- places stay places, and no list is longer than before
pub lists_kept : (deepest : ℕ) (old new : List ℕ) → Grows old new → (spans : List Span)
    → All (IsWithin old) spans × All (λ list. length list ≤ deepest) (map (items_at old) spans)
    → All (IsWithin new) spans × All (λ list. length list ≤ deepest) (map (items_at new) spans)
lists_kept deepest old new more spans this = (
  All-weaker (IsWithin old) (IsWithin new) (λ span. within_grown old new span more) spans this.0,
  rw (lists_grown old new more spans this.0) this.1,
)

-- so it is with a list more
pub lists_more : (deepest deeper : ℕ) (old new : List ℕ) → Grows old new → (spans : List Span) (span : Span)
    (list : List ℕ) → All (IsWithin old) spans × All (λ list. length list ≤ deepest) (map (items_at old) spans)
    → IsWithin new span → items_at new span ≡ list → deepest ≤ deeper → length list ≤ deeper
    → All (IsWithin new) (spans ++ span ∷ [])
    × All (λ list. length list ≤ deeper) (map (items_at new) (spans ++ span ∷ []))
lists_more deepest deeper old new more spans span list this within is before here =
    let kept = lists_kept deepest old new more spans this in (
      All-push (IsWithin new) spans span kept.0 within,
      rw (map-append (items_at new) spans (span ∷ []), is)
          (All-push (λ (l : List ℕ). length l ≤ deeper) (map (items_at new) spans) list
          (All-weaker (λ (l : List ℕ). length l ≤ deepest) (λ l. length l ≤ deeper)
          (λ l low. omega (arith, low, before)) (map (items_at new) spans) kept.1) here),
    )
