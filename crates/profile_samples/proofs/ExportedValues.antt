-- The values of rows in an export: their kinds and units, and what each is.
use Rattle.std.proofs.lemmas.Grind.{common_steps}
use Rattle.std.proofs.Common.{◌≡◌, ℕ, ◌+◌, ◌^◌, ◌<◌, ◌≤◌, List, [], ◌∷◌, ◌++◌, length, take, map, get_or, Some, refl}
use Rattle.std.proofs.Common.{ap, arith}
use Rattle.std.specs.List.{All, AllByRecursion}
use Rattle.std.proofs.lemmas.List.Elements.{recursion_from_All}
use Rattle.std.proofs.lemmas.List.{get_or_default, take_more}
use Rattle.profile_rows.specs.declared.weighted_stacks.WeightedStack.{WeightedStack}
use Rattle.profile_rows.specs.Names.{IsName}
use Rattle.profile_rows.specs.Values.{BatchState, IsBatch, Row, row_in, rows_at, value_of, weighing}
use Rattle.profile_rows.proofs.BatchRows.{weight-le-total}
use Rattle.folded_text.proofs.Writing.{length-rows_at, rows_at-row_in}
use Rattle.profile_samples.specs.declared.exporting.ValueUnit.{ValueUnit}
use Rattle.profile_samples.specs.Export.{KindAndUnit, exported_type, pairs_of, unit_texts}
use Rattle.profile_samples.specs.Samples.{last_index}
use Rattle.name_counts.specs.TextTables.{no_text, with_text, with_texts}
use Rattle.profile_samples.proofs.ExportLaws.{CanStand}
use Rattle.name_counts.proofs.TextNumbers.{with_texts-append}

-- ---- kinds and units

-- what stands past the end
abbrev pub no_unit : ValueUnit
no_unit = record { kind = no_text; unit = no_text }

texts_push : (units : List ValueUnit) (unit : ValueUnit)
    → unit_texts (pairs_of (units ++ unit ∷ [])) ≡ unit_texts (pairs_of units) ++ unit.kind.now ∷ unit.unit.now ∷ []
texts_push [] unit = refl
texts_push (first ∷ units) unit = ap (λ texts. first.kind.now ∷ first.unit.now ∷ texts) (texts_push units unit)

pub units_more : (start old after : List (List ℕ)) (units : List ValueUnit) (k : ℕ)
    → k < length units → old ≡ with_texts start (unit_texts (pairs_of (take k units)))
    → after ≡ with_text (with_text old (get_or units k no_unit).kind.now) (get_or units k no_unit).unit.now
    → after ≡ with_texts start (unit_texts (pairs_of (take (k + 1) units)))
units_more start old after units k lt so_far added =
    grind (arith, common_steps, take_more, with_texts-append, texts_push)

-- the one value is the last one
pub last_one : (strings : List (List ℕ)) (units : List KindAndUnit)
    → length units ≡ 1 → last_index (map (exported_type strings) units) ≡ Some 0
last_one strings [] one = absurd (omega (arith, one))
last_one strings (unit ∷ []) one = refl
last_one strings (unit ∷ next ∷ units) one = absurd (omega (arith, one))

-- ---- rows

-- a stack that can be read
abbrev pub CanBeRead : WeightedStack → Type 0
CanBeRead row = All IsName row.stack × (length row.stack ≤ 65535)

each_stands : (width : ℕ) (rows : List Row) → AllByRecursion CanBeRead (rows_at 0 rows)
    → AllByRecursion (λ (row : Row). length row.weights ≡ width) rows → AllByRecursion (CanStand width) rows
each_stands width [] each widths = tt
each_stands width (row ∷ rows) each widths =
    ((each.0.0, each.0.1, widths.0), each_stands width rows each.1 widths.1)

pub can_stand : (width : ℕ) (rows : List Row) → All CanBeRead (rows_at 0 rows)
    → All (λ (row : Row). length row.weights ≡ width) rows → AllByRecursion (CanStand width) rows
can_stand width rows each widths =
    each_stands width rows (recursion_from_All CanBeRead (rows_at 0 rows) each)
    (recursion_from_All (λ (row : Row). length row.weights ≡ width) rows widths)

-- the values of a batch's rows keep the limit
pub weights_small : (batch : BatchState) (at : ℕ)
    → IsBatch batch → at < length batch.rows → All (λ weight. weight < 2 ^ 63) (row_in batch.rows at).weights
weights_small batch at is lt k d within =
    let weights = (row_in batch.rows at).weights in
    let row : WeightedStack = weighing k (row_in batch.rows at) in
    let size = length-rows_at k batch.rows in
    let light = weight-le-total (rows_at k batch.rows) at row (omega (arith, lt, size)) in
    let here = ap (λ (r : WeightedStack). r.weight) (rows_at-row_in k batch.rows at row lt) in
    let same : get_or weights k d ≡ value_of k weights = get_or_default weights k d 0 within in
    let fits = is.fits k in
    omega (arith, light, here, same, fits)
