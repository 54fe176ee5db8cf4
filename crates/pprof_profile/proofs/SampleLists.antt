-- Samples stay as they are where their lists grow.
use Rattle.std.proofs.lemmas.Grind.{common_steps}
use Rattle.std.proofs.Common.{arith, ℕ, ℤ, List, ◌≡◌, All, map}
use Rattle.std.proofs.lemmas.List.Elements.{All-weaker}
use Rattle.pprof_profile.specs.declared.messages.Label.{Label}
use Rattle.basics.specs.Spans.{Grows}
use Rattle.basics.proofs.Growing.{items_grown, map_agreeing, within_grown}
use Rattle.pprof_profile.specs.declared.samples.SampleSpans.{SampleSpans}
use Rattle.pprof_profile.specs.SampleLists.{AreWithin, sample_at}
use Rattle.pprof_profile.proofs.LocationLists.{list_grown}

-- the parts of samples stand where they stood
pub all_within_grown : (lists more_lists : List (List ℕ)) (values more_values : List ℤ)
    (labels more_labels : List Label) → Grows lists more_lists → Grows values more_values → Grows labels more_labels
    → (spans : List SampleSpans) → All (AreWithin lists values labels) spans
    → All (AreWithin more_lists more_values more_labels) spans
all_within_grown lists more_lists values more_values labels more_labels i v l =
    grind (arith, common_steps, All-weaker, within_grown)

pub samples_grown : (lists more_lists : List (List ℕ)) (values more_values : List ℤ) (labels more_labels : List Label)
    → Grows lists more_lists → Grows values more_values → Grows labels more_labels
    → (spans : List SampleSpans) → All (AreWithin lists values labels) spans
    → map (sample_at more_lists more_values more_labels) spans ≡ map (sample_at lists values labels) spans
samples_grown lists more_lists values more_values labels more_labels i v l spans h =
    grind (arith, All-weaker, items_grown, list_grown, map_agreeing)
