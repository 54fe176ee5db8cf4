-- The sums of all samples give the rows.
use Rattle.std.proofs.Common.{◌∙◌}
use Rattle.profile_rows.proofs.MergedRows.{AreMergedSoFar-same}
use Rattle.profile_samples.specs.LocationSums.{rows_of_sums}
use Rattle.profile_samples.proofs.merged_samples.merged_by.Goals as goal

pub returns : goal.returns
returns c = λ choice is_chosen.
    let sums = c.in_ok-sum_samples.ensures.sums choice is_chosen in
    let merged = rows_of_sums c.args.draft.now c.sum_samples.new.sums in
    record {
      rows = sums.rows;
      sampled = sums.sampled;
      same = AreMergedSoFar-same merged _ (rw c.requires.framed at c.in_ok-stacks_of.ensures)
          ∙ AreMergedSoFar-same sums.rows merged sums.merged;
    }
