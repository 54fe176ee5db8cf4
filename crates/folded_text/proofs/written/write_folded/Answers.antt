-- One row more; and at the end the rows are those of a batch.
use Rattle.std.proofs.lemmas.Grind.{common_steps}
use Rattle.std.proofs.Common.{rules, ◌≡◌, ◌<◌, length, take, get_or, sym, ap, ◌∙◌, subst, arith}
use Rattle.std.proofs.lemmas.List.Elements.{All-more}
use Rattle.profile_rows.specs.declared.weighted_stacks.WeightedStack.{WeightedStack}
use Rattle.profile_rows.specs.Values.{rows_at}
use Rattle.folded_text.specs.FoldedText.{IsFoldedText, rows_text}
use Rattle.folded_text.proofs.Writing.{can_stand, length-rows_at, rows_at-row_in, rows_text_more}
use Rattle.folded_text.proofs.Writing.{rows_text-IsFoldedText}
use Rattle.profile_rows.proofs.BatchRows.{all_batch_rows}
use Rattle.profile_rows.proofs.RowValues.{single_batch-rows_at}
use Rattle.folded_text.proofs.written.write_folded.Goals as goal

-- the row that is written
abbrev written : (c : goal.In_ok-push_row) → WeightedStack
written c = record { stack = c.row.result.stack.now; weight = c.weight.result }

within : (c : goal.In_ok-push_row) → c.loop-at.at < length (rows_at c.args.value c.args.batch.now.rows)
within c = grind (arith, common_steps, length-rows_at)

row_is : (c : goal.In_ok-push_row)
    → written c ≡ get_or (rows_at c.args.value c.args.batch.now.rows) c.loop-at.at (written c)
row_is c =
    (λ i. record { stack = c.row.ensures.stack i; weight = c.weight.ensures i })
    ∙ sym (rows_at-row_in c.args.value c.args.batch.now.rows c.loop-at.at (written c)
    (omega (arith, length-rows_at c.args.value c.args.batch.now.rows, within c)))

pub loop-at-preserved : goal.loop-at-preserved
loop-at-preserved c =
    let rows = rows_at c.args.value c.args.batch.now.rows in
    let names = subst can_stand (row_is c) (c.in_ok-push_row.ensures.names, c.push_row.ensures.depth) in (
      grind (arith, common_steps, rows_text_more, row_is c),
      All-more can_stand rows c.loop-at.at (written c) (within c) c.loop-at.invariant.1 names,
    )

whole : (c : goal.After-into_bytes)
    → take c.loop-at.at (rows_at c.args.value c.args.batch.now.rows) ≡ rows_at c.args.value c.args.batch.now.rows
whole c = grind (arith, common_steps, length-rows_at)

pub returns-clause-written : goal.returns-clause-written
returns-clause-written c = record {
  lines_are = ap (λ bytes. bytes.items) c.into_bytes.ensures.value ∙ c.loop-at.invariant.0 ∙ ap rows_text (whole c);
  reads_back = search (rules, rows_text-IsFoldedText, all_batch_rows, whole);
}

pub returns-clause-reads_back_whole : goal.returns-clause-reads_back_whole
returns-clause-reads_back_whole c = λ one.
    let rows = c.args.batch.now.rows in
    let first : c.args.value ≡ 0 = omega (arith, one, c.requires) in (
      rows_at 0 rows,
      subst (λ value. IsFoldedText c.into_bytes.result.items (rows_at value rows)) first
          (returns-clause-written c).reads_back,
      sym (single_batch-rows_at c.args.batch.now c.first.ensures.batch one),
    )
