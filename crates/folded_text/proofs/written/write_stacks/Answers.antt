-- One row more; and at the end the rows are those of a batch.
use Rattle.std.proofs.lemmas.Grind.{common_steps}
use Rattle.std.proofs.Common.{arith, rules, subst}
use Rattle.std.proofs.lemmas.List.{take_all}
use Rattle.std.proofs.lemmas.List.Elements.{All-more}
use Rattle.folded_text.proofs.Writing.{can_stand, rows_text_more, rows_text-IsFoldedText}
use Rattle.profile_rows.proofs.BatchRows.{all_batch_rows}
use Rattle.folded_text.proofs.written.write_stacks.Goals as goal

pub loop-row-preserved : goal.loop-row-preserved
loop-row-preserved c = (
  grind (arith, common_steps, rows_text_more),
  All-more can_stand c.rows-row-items.result.now c.loop-row.row-index c.row-item.result c.loop-row-test.true
      c.loop-row.invariant.1
      (subst can_stand c.row-item.is (c.in_ok-push_row.ensures.names, c.push_row.ensures.depth)),
)

pub returns : goal.returns
returns c = record {
  lines_are = grind (arith, common_steps, take_all);
  reads_back = search (rules, take_all, rows_text-IsFoldedText, all_batch_rows);
}
