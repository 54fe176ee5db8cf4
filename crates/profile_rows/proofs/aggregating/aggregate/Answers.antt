-- The map has the sums of the rows so far.
use Rattle.std.proofs.Common.{◌≡◌, ◌+◌, true, false, length, take, ap, sym, ◌∙◌, subst, arith}
use Rattle.std.specs.Option.{unwrap_or}
use Rattle.std.specs.FinMap.{find}
use Rattle.std.proofs.lemmas.List.{take_all}
use Rattle.std.proofs.lemmas.Result.{IfOk-weaker}
use Rattle.profile_rows.specs.Aggregate.{AreRowsOf, HasWeight, aggregates_of}
use Rattle.profile_rows.specs.LentStacks.{lent_rows}
use Rattle.profile_rows.specs.Rows.{stack_cmp}
use Rattle.profile_rows.specs.Values.{BatchState, row_in, value_of}
use Rattle.profile_rows.proofs.LentStacks.{HasSums, by_value, held-fits, held-value, held-width, next_row, no_weight}
use Rattle.profile_rows.proofs.LentStacks.{HasSums-AreRowsOf, HasSums-weighted, HasSums-weightless}
use Rattle.profile_rows.proofs.aggregating.aggregate.Goals.{then-weighs_something+in_default, else-weighs_something}
use Rattle.profile_rows.proofs.aggregating.aggregate.Goals as goal

pub plus-requires-clause-fits : goal.plus-requires-clause-fits
plus-requires-clause-fits c = λ value.
    let size = c.len-at-end.ensures in
    let test = c.loop-at-test.true in
    let held = ap (value_of value)
    (c.unwrap_or-held.ensures ∙ ap (λ o. unwrap_or o c.zero-none.result) (c.copied.ensures ∙ c.get.ensures.value))
    ∙ held-value value c.zero-none.result c.row-row.result.stack.now c.loop-at.weights.entries
    (c.zero-none.ensures.zero value)
    ∙ ap (λ s. unwrap_or (find stack_cmp s (by_value value c.loop-at.weights.entries)) 0) c.row-row.ensures.stack in
    let own = ap (value_of value) c.row-row.ensures.weights in
    let fits = held-fits c.args.batch.now.width c.args.batch.now.rows c.loop-at.at c.loop-at.weights.entries value
    (value_of value c.unwrap_or-held.result) (omega (arith, size, test))
    c.loop-at.invariant (c.width.ensures.batch.fits value) held in
    omega (arith, fits, own)

pub loop-at-preserved : goal.loop-at-preserved
loop-at-preserved c =
    let size = c.len-at-end.ensures in
    let test = c.loop-at-test.true in
    let next = next_row c.args.batch.now.rows c.loop-at.at (omega (arith, size, test)) in
    elim c.if-weighs_something.branch [
      | then-weighs_something+in_default w ↦
          let held = w.unwrap_or-held.ensures
          ∙ ap (λ o. unwrap_or o c.zero-none.result) (w.copied.ensures ∙ w.get.ensures.value) in
          let width = ap length held ∙ held-width
          c.args.batch.now.width c.zero-none.result c.row-row.result.stack.now c.loop-at.weights.entries
          (c.zero-none.ensures.width ∙ c.width.ensures.width) c.loop-at.invariant.widths in
          let some : HasWeight c.row-row.result.weights = c.weighs_something.ensures.0 w.if-weighs_something.true in
          subst (λ (m : _). HasSums c.args.batch.now.width (take (c.loop-at.at + 1) c.args.batch.now.rows) m.entries)
          (sym w.weights-is)
          (HasSums-weighted c.args.batch.now.width (take c.loop-at.at c.args.batch.now.rows)
          (take (c.loop-at.at + 1) c.args.batch.now.rows) (row_in c.args.batch.now.rows c.loop-at.at)
          c.loop-at.weights.entries
          w.insert.new.self.entries c.row-row.result.stack w.unwrap_or-held.result w.plus.result
          (subst HasWeight c.row-row.ensures.weights some) next c.row-row.ensures.stack
          (λ value. ap (value_of value) held ∙ held-value value
          c.zero-none.result c.row-row.result.stack.now c.loop-at.weights.entries (c.zero-none.ensures.zero value)
          ∙ ap (λ s. unwrap_or (find stack_cmp s (by_value value c.loop-at.weights.entries)) 0) c.row-row.ensures.stack)
          (w.plus.ensures.width ∙ width)
          (λ value. w.plus.ensures.each value ∙ ap
          (λ weights. value_of value w.unwrap_or-held.result + value_of value weights) c.row-row.ensures.weights)
          w.in_default.ensures.entries c.loop-at.invariant)
      | else-weighs_something w ↦
          let none : HasWeight c.row-row.result.weights → ⊥ = λ some. let clash : true ≡ false =
          sym (c.weighs_something.ensures.1 some) ∙ w.if-weighs_something.false in absurd (cc clash) in
          subst (λ (m : _). HasSums c.args.batch.now.width (take (c.loop-at.at + 1) c.args.batch.now.rows) m.entries)
          (sym w.weights-is)
          (HasSums-weightless c.args.batch.now.width (take c.loop-at.at c.args.batch.now.rows) (take (c.loop-at.at + 1)
          c.args.batch.now.rows) (row_in c.args.batch.now.rows c.loop-at.at) c.loop-at.weights.entries
          (λ value. ap (value_of value) (sym c.row-row.ensures.weights) ∙ no_weight c.row-row.result.weights none value)
          next c.loop-at.invariant)
    ]

pub returns-clause-rows : goal.returns-clause-rows
returns-clause-rows c =
    let size = c.len-at-end.ensures in
    let test = c.loop-at-test.false in
    let all : take c.loop-at.at c.args.batch.now.rows ≡ c.args.batch.now.rows =
    take_all c.loop-at.at c.args.batch.now.rows (omega (arith, size, test)) in
    let held = subst (λ rows. HasSums c.args.batch.now.width rows c.loop-at.weights.entries) all c.loop-at.invariant in
    let are = HasSums-AreRowsOf c.args.batch.now.width c.args.batch.now.rows c.loop-at.weights.entries held in
    IfOk-weaker c.batch_of_weights.result (λ (batch : BatchState). batch.rows ≡ lent_rows c.loop-at.weights)
    (λ (batch : BatchState). AreRowsOf (aggregates_of c.args.batch.now.rows) batch.rows)
    (λ batch is. subst (AreRowsOf (aggregates_of c.args.batch.now.rows)) (sym is) are) c.batch_of_weights.ensures.rows
