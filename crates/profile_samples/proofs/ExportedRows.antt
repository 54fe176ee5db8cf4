-- Rows that are written as samples when they come: a name keeps its id as more names come.
use Rattle.std.proofs.lemmas.Grind.{common_steps, flat_map-append}
use Rattle.std.proofs.Common.{arith, ◌≡◌, ℕ, ◌+◌, List, [], ◌∷◌, ◌++◌, map, pos, refl, sym, ap, ◌∙◌, subst}
use Rattle.std.specs.Prelude.{reverse}
use Rattle.std.specs.List.{flat_map}
use Rattle.std.proofs.lemmas.List.{map-append, append-nil}
use Rattle.std.proofs.lemmas.List.Concat.{flat_map-cons}
use Rattle.std.proofs.lemmas.List.Sums.{sum_by_push}
use Rattle.pprof_profile.specs.declared.messages.Sample.{Sample}
use Rattle.pprof_profile.specs.Canonical.{sample_bytes, samples_bytes, FitsSample}
use Rattle.pprof_profile.specs.Writing.{FitsEach}
use Rattle.profile_rows.specs.declared.weighted_stacks.WeightedStack.{WeightedStack}
use Rattle.profile_rows.specs.Values.{Row, rows_at, single, singles}
use Rattle.name_counts.specs.TextTables.{with_texts}
use Rattle.profile_samples.specs.Export.{AreSamplesOf, exported_sample, id_in}
use Rattle.profile_samples.specs.Export.{names_of}
use Rattle.profile_samples.proofs.ExportLaws.{AllStand, frames_in, number_in-withs, stand_parts, stand_where}
use Rattle.profile_samples.proofs.ExportLaws.{with_texts-own}
use Rattle.name_counts.proofs.TextNumbers.{with_texts-append}

ids_kept : (texts more stack : List (List ℕ))
    → AllStand texts stack → map (id_in (with_texts texts more)) stack ≡ map (id_in texts) stack
ids_kept texts more [] all = refl
ids_kept texts more (name ∷ stack) all =
    rw (number_in-withs texts more name all.0, ids_kept texts more stack all.1) refl

-- ---- the samples of rows

samples_kept : (texts more : List (List ℕ)) (rows : List Row)
    → AllStand texts (frames_in rows)
    → map (exported_sample (with_texts texts more)) rows ≡ map (exported_sample texts) rows
samples_kept texts more [] all = refl
samples_kept texts more (row ∷ rows) all =
    let (here, later) = stand_parts texts row.stack (frames_in rows) all in
    rw (ids_kept texts more row.stack here, samples_kept texts more rows later) refl

names_push : (rows : List Row) (row : Row) → names_of (rows ++ row ∷ []) ≡ with_texts (names_of rows) row.stack
names_push rows row = grind (arith, common_steps, append-nil, flat_map-cons, flat_map-append, with_texts-append)

fits_joined : (samples more : List Sample)
    → FitsEach FitsSample sample_bytes samples → FitsEach FitsSample sample_bytes more
    → FitsEach FitsSample sample_bytes (samples ++ more)
fits_joined [] more fits other = other
fits_joined (sample ∷ samples) more fits other = (fits.0, fits_joined samples more fits.1 other)

-- a row more
pub AreSamplesOf-push : (rows : List WeightedStack) (row : WeightedStack)
    (names next : List (List ℕ)) (samples after ids : List ℕ) (total sum : ℕ) → AreSamplesOf rows names samples total
    → next ≡ with_texts names row.stack → ids ≡ reverse (map (id_in next) row.stack) → sum ≡ total + row.weight
    → after ≡ samples_bytes (map (exported_sample names)
    (singles rows) ++ (record { location_ids = ids; values = pos row.weight ∷ []; labels = [] }) ∷ [])
    → FitsEach FitsSample sample_bytes ((record { location_ids = ids; values = pos row.weight ∷ []; labels = [] }) ∷ [])
    → AreSamplesOf (rows ++ row ∷ []) next after sum
AreSamplesOf-push rows row names next samples after ids total sum so_far added numbered more written fits =
    let before = singles rows in
    let longer : singles (rows ++ row ∷ []) ≡ before ++ single row ∷ [] = map-append single rows (row ∷ []) in
    let all : AllStand names (frames_in before) = rw so_far.names_rows
    (stand_where (frames_in before) (names_of before) (with_texts-own [] (frames_in before))) in
    let sample : Sample = record { location_ids = ids; values = pos row.weight ∷ []; labels = [] } in
    let listed : map (exported_sample names) before ++ sample ∷ []
    ≡ map (exported_sample next) (singles (rows ++ row ∷ [])) =
    rw (numbered, longer, added, ← samples_kept names row.stack before all)
    (sym (map-append (exported_sample (with_texts names row.stack)) before (single row ∷ []))) in
    record {
      names_rows = rw (added, longer, so_far.names_rows) (sym (names_push before (single row)));
      samples_rows = written ∙ ap samples_bytes listed;
      fits_rows = subst (λ all. FitsEach FitsSample sample_bytes all) listed
          (fits_joined (map (exported_sample names) before) (sample ∷ []) so_far.fits_rows fits);
      total_rows = rw (more, so_far.total_rows) (sym (sum_by_push (λ (r : WeightedStack). r.weight) rows row));
    }

-- the stacks of rows of several values are those of their first values
pub stacks_first : (rows : List Row)
    → flat_map (λ (r : WeightedStack). r.stack) (rows_at 0 rows) ≡ flat_map (λ (r : Row). r.stack) rows
stacks_first [] = refl
stacks_first (row ∷ rows) = grind (arith, common_steps, flat_map-cons, stacks_first rows)
