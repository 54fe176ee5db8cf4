-- Samples whose parts stand together.
use Rattle.std.specs.Prelude.{ℕ, ℤ, ◌<◌, ◌++◌, List, length}
use Rattle.basics.specs.Spans.{IsWithin, items_at}
use Rattle.pprof_profile.specs.LocationLists.{list_at}
use Rattle.pprof_profile.specs.declared.messages.Label.{Label}
use Rattle.pprof_profile.specs.declared.messages.Sample.{Sample}
use Rattle.pprof_profile.specs.declared.samples.SampleSpans.{SampleSpans}

-- the sample whose parts stand there
abbrev pub sample_at : List (List ℕ) → List ℤ → List Label → SampleSpans → Sample
sample_at lists values labels spans = record {
  location_ids = list_at lists spans.list;
  values = items_at values spans.values;
  labels = items_at labels spans.labels;
}

-- the parts of a sample stand there
pub record AreWithin (lists : List (List ℕ)) (values : List ℤ) (labels : List Label) (spans : SampleSpans)
    : Type 0 where
  pub list_is : spans.list < length lists
  pub values_are : IsWithin values spans.values
  pub labels_are : IsWithin labels spans.labels

-- samples, and the lists of location ids, one of which each has
pub record ListedSamples : Type 0 where
  pub samples : List Sample
  pub lists : List (List ℕ)

-- the sample with these ids before its own
abbrev pub with_ids_before : List ℕ → Sample → Sample
with_ids_before ids sample = record {
  location_ids = ids ++ sample.location_ids;
  values = sample.values;
  labels = sample.labels;
}
