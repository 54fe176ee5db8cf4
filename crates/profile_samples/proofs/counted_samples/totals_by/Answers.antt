-- The names weigh in the samples' rows what they do in those of the sums.
use Rattle.folded_text.proofs.Counting.{AreTotalsOf-merged}
use Rattle.profile_samples.specs.LocationSums.{rows_of_sums}
use Rattle.profile_samples.proofs.counted_samples.totals_by.Goals as goal

pub returns : goal.returns
returns c = λ choice is_chosen.
    let sums = c.in_ok-sum_samples.ensures.sums choice is_chosen in
    record {
      rows = sums.rows;
      sampled = sums.sampled;
      totals_rows = AreTotalsOf-merged sums.rows (rows_of_sums c.args.draft.now c.sum_samples.new.sums) _
          sums.merged (rw c.requires.framed at c.in_ok-totals_of.ensures);
    }
