-- The tree of a grower with the rows of a batch, in place.
use Rattle.std.proofs.Common.{◌≡◌, ℕ, List, length, arith, sym, ap, ◌∙◌, subst}
use Rattle.std.specs.Arc.{arc_value}
use Rattle.profile_rows.specs.declared.weighted_stacks.WeightedStack.{WeightedStack}
use Rattle.call_tree.specs.State.{TreeState, AreGrown, plain_at, total_in, weights_of}
use Rattle.call_tree.specs.Plans.{AreFirstSlots, AreSlots}
use Rattle.call_tree.proofs.Growing.{AreSlots-first, HasAdded-credited, weights-grown}
use Rattle.call_tree.proofs.Planned.{IsIndex-credited}
use Rattle.call_tree.proofs.Totals.{total_in-weights_of}
use Rattle.call_tree.proofs.grower.Grower.with_batch.Goals as goal

pub with_rows_at-requires-clause-slots : goal.with_rows_at-requires-clause-slots
with_rows_at-requires-clause-slots c =
    let batch = c.args.batch.now in
    let after = c.slots_of.new.self in
    let slots = c.in_ok-slots.slots.items in
    let of_rows = subst (λ (rows : List WeightedStack). AreFirstSlots (plain_at after 0) rows slots (length rows))
    c.first.ensures.first c.in_ok-slots.ensures.slots in
    let are = AreSlots-first (plain_at after 0) batch.rows slots of_rows in
    let here = subst (λ (tree : TreeState). AreSlots (plain_at tree 0) batch.rows slots) (sym c.grower-2.view_is) are in
    subst (λ (items : List ℕ). AreSlots (plain_at (arc_value c.grower-2.inside.tree) 0) batch.rows items)
    (sym c.as_slice.ensures.value) here

pub with_rows_at-requires-clause-fits : goal.with_rows_at-requires-clause-fits
with_rows_at-requires-clause-fits c = λ value.
    let tree = arc_value c.grower-2.inside.tree in
    let same : weights_of tree value ≡ weights_of c.args.self value =
    ap (λ (t : TreeState). weights_of t value) c.grower-2.view_is
    ∙ weights-grown (arc_value c.grower.inside.tree) c.slots_of.new.self c.in_ok-slots.ensures.grown value
    ∙ ap (λ (t : TreeState). weights_of t value) c.grower.view_is in
    omega (arith, c.requires.fits value, total_in-weights_of tree value, ap total_in same)

pub invariant_of-result : goal.invariant_of-result
invariant_of-result c = grind (arith, IsIndex-credited)

pub returns : goal.returns
returns c =
    let tree = arc_value c.grower-2.inside.tree in
    let more = subst (λ (t : TreeState). AreGrown t c.slots_of.new.self) c.grower.view_is c.in_ok-slots.ensures.grown in
    let grown = subst (AreGrown c.args.self) (sym c.grower-2.view_is) more in
    HasAdded-credited c.args.self tree (arc_value c.in_ok-tree.tree) c.args.batch.now tree.width grown
    c.first.ensures.batch (c.requires.width ∙ sym grown.width) c.in_ok-tree.ensures
