-- What a row shares with the row before are their known paths.
use Rattle.std.proofs.lemmas.Grind.{common_steps}
use Rattle.std.proofs.Common.{arith, ◌≡◌, ◌∙◌, ℕ, Bool, List, ap, length, map}
use denote.Ref.{Bor}
use Rattle.std.specs.Cmp.Lexicographic.{texts_ties}
use Rattle.std.specs.List.{common_prefix_len, take_while, zip}
use Rattle.std.specs.Ordering.{eq_by_cmp}
use Rattle.std.specs.Str.{bytes_eq}
use Rattle.std.proofs.lemmas.List.Sums.{common_prefix_len-le}
use Rattle.flame_report.proofs.CommonPrefix.{pairs_alike}
use Rattle.name_counts.proofs.TextNumbers.{text_of}
use Rattle.profile_rows.specs.Names.{name_cmp}
use Rattle.flame_report.proofs.RowSums.{stack_at-get, known_at-back}
use Rattle.flame_report.proofs.layout.shapes_of.Goals as goal

-- frames share what their texts do
shared_texts : (before frames : List (Bor (List ℕ))) (count : ℕ)
    → count ≡ length (take_while (λ pair. bytes_eq pair.0.now pair.1.now) (zip before frames))
    → count ≡ common_prefix_len (eq_by_cmp name_cmp) (map text_of before) (map text_of frames)
shared_texts before frames count is =
    is ∙ pairs_alike bytes_eq text_of text_of before frames
    ∙ ap (λ (alike : List ℕ → List ℕ → Bool). common_prefix_len alike (map text_of before) (map text_of frames))
    (λ i name other. texts_ties name other i)

pub overflow_add-known : goal.overflow_add-known
overflow_add-known c =
    let count = shared_texts c.deref.result.now c.deref-in-loop-at.result.now
    c.shared-shared.result c.shared-shared.ensures in
    grind (arith, common_steps, common_prefix_len-le, count)

pub loop-at-preserved : goal.loop-at-preserved
loop-at-preserved c =
    let count = shared_texts c.deref.result.now c.deref-in-loop-at.result.now
    c.shared-shared.result c.shared-shared.ensures in
    grind (arith, common_steps, text_of, count, stack_at-get, known_at-back)
