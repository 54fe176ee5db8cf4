-- The export of a batch gives it back by all its values.
use Rattle.std.proofs.Common.{◌≡◌, ℕ, zero, suc, ◌^◌, ◌<◌, List, [], ◌∷◌, length, map, refl, sym, ap, ◌∙◌, arith}
use Rattle.std.specs.Prelude.{Some}
use Rattle.std.specs.List.{All}
use Rattle.std.proofs.lemmas.List.{length-map}
use Rattle.profile_rows.specs.declared.weighted_stacks.WeightedStack.{WeightedStack}
use Rattle.profile_rows.specs.Rows.{IsBatchRow, total_of}
use Rattle.profile_rows.specs.Values.{BatchState, IsBatch, rows_at, single_batch}
use Rattle.profile_samples.specs.declared.sampling.ValueChoice.TheVariants as choices
use Rattle.profile_samples.specs.Batches.{AreStacksOf, IsBatchOf}
use Rattle.profile_samples.specs.Export.{KindAndUnit, exported_profile_of, exported_type, names_of, single_profile_of}
use Rattle.profile_samples.specs.Export.{strings_of}
use Rattle.profile_samples.specs.Samples.{all_of, one_from}
use Rattle.profile_samples.proofs.ExportLaws.{exported_rows}
use Rattle.profile_samples.proofs.ExportedValues.{CanBeRead, can_stand, last_one}
use Rattle.profile_samples.proofs.SampleBatches.{rows_at-singles, single_is_batch}

all_chosen : (count width : ℕ) → count ≡ width → 0 < width → all_of count ≡ Some (0, width)
all_chosen zero width same some = absurd (omega (arith, same, some))
all_chosen (suc more) width same some = ap (λ w. Some (0, w)) same

pub export_batch : (batch : BatchState) (units : List KindAndUnit) → length units ≡ batch.width → IsBatch batch
    → All CanBeRead (rows_at 0 batch.rows) → IsBatchOf (exported_profile_of batch.rows units) choices.All batch
export_batch batch units count is each = record {
  first = 0;
  is_chosen = all_chosen (length (map (exported_type (strings_of units (names_of batch.rows))) units)) batch.width
      (length-map units (exported_type (strings_of units (names_of batch.rows))) ∙ count) is.some;
  rows_samples = exported_rows batch.rows units batch.width (can_stand batch.width batch.rows each is.widths);
  is_batch = is;
}

-- where there is one value, it is the default one
pub export_one : (batch : BatchState) (units : List KindAndUnit)
    → length units ≡ batch.width → batch.width ≡ 1 → IsBatch batch
    → All CanBeRead (rows_at 0 batch.rows) → IsBatchOf (exported_profile_of batch.rows units) choices.Default batch
export_one batch units count one is each = record {
  first = 0;
  is_chosen = ap one_from (last_one (strings_of units (names_of batch.rows)) units (count ∙ one))
      ∙ ap (λ w. Some (0, w)) (sym one);
  rows_samples = exported_rows batch.rows units batch.width (can_stand batch.width batch.rows each is.widths);
  is_batch = is;
}

-- and so do rows of one value
pub export_rows : (rows : List WeightedStack) (kind unit : List ℕ)
    → All IsBatchRow rows → total_of rows < 2 ^ 63 → AreStacksOf (single_profile_of rows kind unit) choices.Default rows
export_rows rows kind unit each fits =
    export_one (single_batch rows) ((kind, unit) ∷ []) refl refl (single_is_batch rows fits)
    (rw (rows_at-singles rows) (λ k d lt. let row = each k d lt in (row.names, row.depth)))
