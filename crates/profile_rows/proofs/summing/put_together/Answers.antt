-- One row more is put to those so far.
use Rattle.std.proofs.Common.{◌≡◌, [], arith, ap, sym, ◌∙◌, refl}
use Rattle.std.proofs.lemmas.List.{nil_from_length}
use Rattle.profile_rows.specs.Aggregate.{rows_of}
use Rattle.profile_rows.specs.Rows.{weight_of}
use Rattle.profile_rows.proofs.InOrder.{rows_of-aggregate}
use Rattle.profile_rows.proofs.RowLaws.{aggregate_of-same}
use Rattle.profile_rows.proofs.PuttingTogether.{IsPuttingTogether-row, IsPuttingTogether-weightless, reached_first}
use Rattle.profile_rows.proofs.summing.put_together.Goals as goal

pub add_sum-requires-clause-sums : goal.add_sum-requires-clause-sums
add_sum-requires-clause-sums c =
    let so_far = c.loop-row.invariant in
    record {
      ascending = so_far.ascending;
      weighty = so_far.weighty;
      up_to = reached_first c.args.sorted.items c.loop-row.sums c.loop-row.sums c.loop-row.row-iterator.rest.items
          c.next.new.self.rest.items c.in-Some.row so_far c.in-Some.ensures.steps.0;
    }

pub loop-row-preserved-in-Continue-1 : goal.loop-row-preserved-in-Continue-1
loop-row-preserved-in-Continue-1 c =
    let added = c.in_ok-add_sum.ensures in
    IsPuttingTogether-row c.args.sorted.items c.loop-row.sums c.add_sum.new.sums c.loop-row.row-iterator.rest.items
    c.next.new.self.rest.items c.in-Some.row c.loop-row.invariant c.in-Some.ensures.steps.0
    added.sums added.adds

pub loop-row-preserved : goal.loop-row-preserved
loop-row-preserved c =
    IsPuttingTogether-weightless c.args.sorted.items c.loop-row.sums c.loop-row.sums c.loop-row.row-iterator.rest.items
    c.next.new.self.rest.items c.in-Some.row c.loop-row.invariant c.in-Some.ensures.steps.0
    (omega (arith, c.if-row-gt0.false)) refl

pub returns : goal.returns
returns c =
    let sums = c.loop-row.sums in
    let so_far = c.loop-row.invariant in
    let end : c.loop-row.row-iterator.rest.items ≡ [] = nil_from_length c.loop-row.row-iterator.rest.items
    (omega (arith, c.loop-row.row-iterator.rest.ok.0, c.in-None.ensures.steps.0)) in
    sym (rows_of-aggregate sums so_far.ascending so_far.weighty)
    ∙ ap rows_of (aggregate_of-same sums c.args.sorted.items (λ stack.
    let weights = so_far.weights stack in
    let none : weight_of c.loop-row.row-iterator.rest.items stack ≡ 0 = ap (λ rows. weight_of rows stack) end in
    omega (arith, weights, none)))
