-- `==` tells whether two stacks are one.
use Rattle.std.proofs.Common.{◌≡◌, ◌-◌, true, false, length, arith, ap, sym, ◌∙◌}
use Rattle.std.specs.Prelude.{◌==◌, slice_index_or}
use lib.Pointwise.{pointwise, pointwise_decides}
use Rattle.std.proofs.lemmas.List.{get_or_default}
use Rattle.profile_rows.specs.Merging.{no_row, row_at}
use Rattle.profile_rows.specs.declared.weighted_stacks.WeightedStack.{WeightedStack}
use Rattle.profile_rows.proofs.EqualRows.{is_same_name-decides}
use Rattle.profile_rows.proofs.summing.last_of_stack.Goals.{else-count-gt0-via-then-count-gt0+else-eq}
use Rattle.profile_rows.proofs.summing.last_of_stack.Goals.{else-count-gt0-via-else-count-gt0}
use Rattle.profile_rows.proofs.summing.last_of_stack.Goals as goal

pub returns-then-eq : goal.returns-then-eq
returns-then-eq c =
    let last = slice_index_or c.args.rows.now (length c.args.rows.now - 1) c.index-rows-count.result in
    let read : row_at c.args.rows.now (length c.args.rows.now - 1) ≡ last = get_or_default c.args.rows.now
    (length c.args.rows.now - 1) no_row c.index-rows-count.result (omega (arith, c.if-count-gt0.true)) in
    let told : pointwise (pointwise ◌==◌) last.stack c.args.stack.now ≡ true = sym c.eq.ensures ∙ c.if-eq.true in (
      omega (arith, c.if-count-gt0.true),
      ap (λ (row : WeightedStack). row.stack) read
          ∙ (pointwise_decides is_same_name-decides last.stack c.args.stack.now).0 told,
    )

pub returns-else-count-gt0 : goal.returns-else-count-gt0
returns-else-count-gt0 c = λ at end same. elim c.else-count-gt0.branch [
  | else-count-gt0-via-then-count-gt0+else-eq w ↦
      let last = slice_index_or c.args.rows.now (length c.args.rows.now - 1) w.index-rows-count.result in
      let index : length c.args.rows.now - 1 ≡ at = omega (arith, end) in
      let read : row_at c.args.rows.now (length c.args.rows.now - 1) ≡ last = get_or_default c.args.rows.now
      (length c.args.rows.now - 1) no_row w.index-rows-count.result (omega (arith, end)) in
      let equal = (pointwise_decides is_same_name-decides last.stack c.args.stack.now).1
      (sym (ap (λ (row : WeightedStack). row.stack) read) ∙ ap (λ k. (row_at c.args.rows.now k).stack) index ∙ same) in
      let told : pointwise (pointwise ◌==◌) last.stack c.args.stack.now ≡ false = sym w.eq.ensures ∙ w.if-eq.false in
      let clash : true ≡ false = sym equal ∙ told in cc
  | else-count-gt0-via-else-count-gt0 w ↦ omega (arith, w.if-count-gt0.false, end)
]
