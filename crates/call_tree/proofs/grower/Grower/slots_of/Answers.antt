use Rattle.std.proofs.lemmas.Grind.{common_steps}
use Rattle.std.proofs.Common.{◌+◌, List, ℕ, arith, sym, subst}
use Rattle.std.proofs.lemmas.List.{get_or_read}
use Rattle.profile_rows.specs.declared.weighted_stacks.WeightedStack.{WeightedStack}
use Rattle.profile_rows.specs.Merging.{no_row}
use Rattle.call_tree.specs.State.{plain_at}
use Rattle.call_tree.specs.Plans.{AreFirstSlots, IsSlot}
use Rattle.call_tree.proofs.Paths.{AreFirstSlots-step}
use Rattle.call_tree.proofs.grower.Grower.slots_of.Goals as goal

pub loop-row-preserved : goal.loop-row-preserved
loop-row-preserved c =
    let rows = c.rows-rows.result.now in
    let at = c.loop-row.row-index in
    let next = plain_at c.grow.new.self 0 in
    let row = get_or_read rows at c.row-item.result c.loop-row-test.true c.row-item.is no_row in
    let node = c.in_ok-node.node in
    let slot = subst (λ (row : WeightedStack). IsSlot next row.stack node) row c.in_ok-node.ensures.node in (
      grind (arith, common_steps),
      subst (λ (slots : List ℕ). AreFirstSlots next rows slots (at + 1)) (sym c.in_ok-push.ensures.items)
          (AreFirstSlots-step c.loop-row.self c.grow.new.self rows c.loop-row.slots.items at node
          c.in_ok-node.ensures.grown c.loop-row.invariant.1 slot),
    )
