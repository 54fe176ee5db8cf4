-- The samples are read in order: each is added to the sums, or has the first fault.
use Rattle.std.proofs.lemmas.Grind.{common_steps}
use Rattle.std.proofs.Common.{◌≡◌, ◌<◌, ◌+◌, ◌^◌, ◌++◌, ◌∷◌, [], ap, refl, sym, length, ◌∙◌, arith}
use Rattle.std.proofs.lemmas.List.{get_or-map, length-map}
use Rattle.std.proofs.lemmas.Result.{err_from_is_err_and}
use Rattle.pprof_profile.specs.LocationLists.{list_at}
use Rattle.profile_rows.specs.Rows.{total_of}
use Rattle.profile_rows.specs.declared.weighted_stacks.WeightedStack.{WeightedStack}
use Rattle.profile_rows.proofs.MergedRows.{AreMergedSoFar-row}
use Rattle.profile_samples.specs.LocationSums.{LocationSum, row_of_sum, rows_of_sums, sum_at, total_of_sums}
use Rattle.profile_samples.proofs.LocationSums.{AddsRow-raised, FitStacks-raised, FitStacks-without, lists_of-raised}
use Rattle.profile_samples.proofs.LocationSums.{lists_of-without, merged-without, total_of-rows}
use Rattle.profile_samples.proofs.SampleBatches.{AreStacksSoFar-row, AreStacksSoFar-stands, IsBatchSoFar-end}
use Rattle.profile_samples.proofs.SampleBatches.{single_is_batch}
use Rattle.profile_samples.proofs.SampleRows.{has_values, samples_read}
use Rattle.profile_samples.proofs.merged_samples.sum_samples.Goals as goal

pub loop-index-init : goal.loop-index-init
loop-index-init c =
    let draft = c.args.draft.now in
    let lists = c.args.samples.now.lists in (
      (
        [],
        record { wide = refl; known = refl; is = single_is_batch [] (omega arith) },
        rw c.requires.none (merged-without draft lists),
      ),
      rw c.requires.none (FitStacks-without draft lists),
      rw c.requires.none (lists_of-without lists),
    )

pub sample_weight-requires-clause-values : goal.sample_weight-requires-clause-values
sample_weight-requires-clause-values c =
    let typed = c.requires.typed in
    let have = has_values c.args.draft.now c.args.chosen 1 c.loop-index.index c.at-sample.result
    c.requires.valid (omega (arith, typed)) (rw c.requires.own at c.at-sample.ensures) in
    omega (arith, have)

-- the sums weigh what the rows do
pub returns-in_err-weight-clause-sums : goal.returns-in_err-weight-clause-sums
returns-in_err-weight-clause-sums c = λ choice is_chosen.
    let p = err_from_is_err_and c.from_residual.result c.from_residual.ensures.1 in
    let (rows, so_far, merged) = c.loop-index.invariant.0 in
    let read = rw c.requires.own at c.at-sample.ensures in
    let total : c.total.result ≡ total_of rows =
    c.total.ensures.total ∙ sym (total_of-rows c.args.draft.now c.loop-index.sums) ∙ merged.total in
    let there = rw (c.requires.framed, total) at c.in_err-weight.ensures in
    rw (p.1, p.2) (AreStacksSoFar-stands c.args.draft.now choice c.args.chosen
    c.loop-index.index c.at-sample.result rows c.in_err-weight.field-0.0 is_chosen read so_far there)

pub add-requires-clause-inside : goal.add-requires-clause-inside
add-requires-clause-inside c =
    let (first, fit, lists) = c.loop-index.invariant in
    let inside = c.number_at.ensures.inside in
    let many = ap length lists in
    omega (arith, inside, many, length-map c.loop-index.sums (λ (sum : LocationSum). sum.ids))

pub add-requires-clause-fits : goal.add-requires-clause-fits
add-requires-clause-fits c =
    let fits = c.in_ok-weight.ensures.fits in let total = c.total.ensures.total in omega (arith, fits, total)

pub loop-index-preserved : goal.loop-index-preserved
loop-index-preserved c =
    let draft = c.args.draft.now in
    let sums = c.loop-index.sums in
    let ids = c.at-sample.result.location_ids in
    let number = c.number_at.result in
    let weight = c.in_ok-weight.weight in
    let ((rows, so_far, merged), fit, lists) = c.loop-index.invariant in
    let row : WeightedStack = row_of_sum draft (record { ids = ids; weight = weight }) in
    let read = rw c.requires.own at c.at-sample.ensures in
    let own = rw c.requires.framed at c.in_ok-weight.ensures.row in
    let inside = c.number_at.ensures.inside in
    let many = ap length lists in
    let lt : number < length sums = omega (arith, inside, many, length-map sums (λ (sum : LocationSum). sum.ids)) in
    let list : (sum_at sums number).ids ≡ ids =
    sym (get_or-map (λ (sum : LocationSum). sum.ids) sums number (record { ids = []; weight = 0 }) [] lt)
    ∙ ap (λ all. list_at all number) lists ∙ sym (c.number_at.ensures.list c.at-sample.result c.at-sample.ensures) in
    let total = c.total.ensures.total in
    let limit = c.in_ok-weight.ensures.fits in
    let fits : total_of_sums sums + weight < 2 ^ 63 = omega (arith, total, limit) in
    let adds = AddsRow-raised draft ids sums number weight lt list fits in
    let room = rw merged.total at adds.fits in
    rw c.add.ensures (
      (
        rows ++ row ∷ [],
        AreStacksSoFar-row draft c.args.chosen c.loop-index.index c.at-sample.result rows row read so_far own room,
        AreMergedSoFar-row rows (rows ++ row ∷ []) (rows_of_sums draft sums) _ row merged adds refl,
      ),
      FitStacks-raised draft ids sums number weight lt list own.depth fit,
      lists_of-raised sums number weight ∙ lists,
    )

pub returns-clause-sums : goal.returns-clause-sums
returns-clause-sums c = λ choice is_chosen.
    let (rows, so_far, merged) = c.loop-index.invariant.0 in
    let whole = samples_read c.args.draft.now c.args.draft.now c.loop-index.index c.len-index-end.result
    refl (c.len-index-end.ensures ∙ ap length c.requires.own) c.loop-index-test.false in
    record {
      rows = rows;
      sampled = grind (arith, common_steps, IsBatchSoFar-end, whole);
      merged = merged;
    }
