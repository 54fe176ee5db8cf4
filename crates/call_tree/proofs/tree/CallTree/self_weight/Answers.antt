use Rattle.std.proofs.Common.{◌≡◌, ◌<◌, arith, refl, sym, ap, ◌∙◌, subst}
use Rattle.profile_rows.specs.Aggregate.{weight_in}
use Rattle.profile_rows.specs.Values.{value_of}
use Rattle.call_tree.specs.State.{AreStates, weights_of}
use Rattle.call_tree.proofs.Filling.{IsFilled, IsFilled-step, IsFilled-zeros, value_of-filled}
use Rattle.call_tree.proofs.Totals.{weight_in-found, weight_in-nowhere, weight_in-past}
use Rattle.call_tree.proofs.tree.CallTree.self_weight.Goals as goal
use Rattle.call_tree.proofs.tree.CallTree.self_weight.Goals.{in-Some+else-loop-value-test, in_default}

pub loop-value-preserved : goal.loop-value-preserved
loop-value-preserved c =
    let now = c.args.self.now in
    let stack = c.args.stack.now in
    let value = c.loop-value.value in
    let slot = c.in-Some.slot in
    let lt : value < now.width = omega (
      arith,
      c.loop-value-test.true,
      c.get-count.ensures.count,
      c.width-width.ensures,
      ap (λ t. t.width) c.self.view_is,
    ) in
    IsFilled-step (λ value. weight_in (weights_of now value) stack)
    value c.weight.result c.loop-value.weights _ c.loop-value.invariant
    (omega (arith, c.loop-value-test.true, c.get-count.ensures.count, c.get-count.ensures.few))
    (c.weight.ensures
    ∙ sym (weight_in-found now c.facts.ensures stack value slot lt c.in-Some.ensures.0 c.in-Some.ensures.1)) refl

pub returns-clause-weights : goal.returns-clause-weights
returns-clause-weights c =
    let now = c.args.self.now in
    let stack = c.args.stack.now in
    let width = c.width-width.result in
    let states : AreStates now = c.facts.ensures in
    let width_is : width ≡ now.width = c.width-width.ensures ∙ ap (λ t. t.width) c.self.view_is in
    let filled : IsFilled (λ value. weight_in (weights_of now value) stack) width c.match-slot_of.weights =
    elim c.match-slot_of.branch [
      | in-Some+else-loop-value-test w ↦
          subst (IsFilled (λ value. weight_in (weights_of now value) stack) width) (sym w.weights-is)
          (subst (λ n. IsFilled (λ value. weight_in (weights_of now value) stack) n w.loop-value.weights)
          (omega (arith, w.loop-value-test.false, w.loop-value.auto.value-end, c.get-count.ensures.count))
          w.loop-value.invariant)
      | in_default w ↦
          subst (IsFilled (λ value. weight_in (weights_of now value) stack) width) (sym w.weights-is)
          (IsFilled-zeros (λ value. weight_in (weights_of now value) stack) width
          (weight_in-nowhere now states stack w.in_default.ensures))
    ] in
    λ value. ap (value_of value) c.weights_from.ensures
    ∙ value_of-filled (λ value. weight_in (weights_of now value) stack) width c.match-slot_of.weights filled
    (omega (arith, c.get-count.ensures.few))
    (λ k le. weight_in-past now states stack k (omega (arith, le, width_is))) value
