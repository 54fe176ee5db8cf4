use Rattle.std.proofs.Common.{◌≡◌, ◌<◌, length, arith, sym, ap, ◌∙◌, subst}
use Rattle.profile_rows.specs.Rows.{total_of}
use Rattle.profile_rows.specs.Values.{rows_at}
use Rattle.call_tree.specs.State.{TreeState, nodes_at, plain_at}
use Rattle.call_tree.specs.Shape.{node_rows}
use Rattle.call_tree.specs.Nodes.{AreTrees, HasTotal, nodes_of, plain_of, tree_of}
use Rattle.call_tree.specs.Plans.{AreCredited, AreSlots, IsCredited}
use Rattle.call_tree.proofs.Adding.{AreAddedTo-step, slots_now, total_now}
use Rattle.call_tree.proofs.Growing.{AreSlots-by}
use Rattle.call_tree.proofs.Totals.{HasTotal-credited}
use Rattle.call_tree.proofs.tree.CallTree.add_batch.Goals as goal

pub add_rows-requires-clause-slots : goal.add_rows-requires-clause-slots
add_rows-requires-clause-slots c =
    let tree = c.args.self in
    let value = c.loop-value.value in
    let rows = c.args.batch.now.rows in
    let slots = c.args.slots.now in
    let names_are : c.self.inside.names ≡ tree.names = ap (λ t. t.names) c.self.view_is in
    let tree_is : tree_of tree.names c.self.inside.nodes ≡ tree =
    ap (λ ns. tree_of ns c.self.inside.nodes) (sym (ap (λ t. t.names) c.self.view_is)) ∙ c.self.view_is in
    let lt : value < tree.width = omega (
      arith,
      c.loop-value-test.true,
      c.loop-value.auto.value-end,
      c.width.ensures,
      ap (λ t. t.width) c.self.view_is,
    ) in
    let were = AreSlots-by tree rows slots value c.facts.ensures lt c.requires.slots in
    let are = slots_now tree.names c.self.inside.nodes c.loop-value.nodes rows value c.loop-value.invariant slots
    (subst (λ (t : TreeState). AreSlots (plain_at t value) rows slots) (sym tree_is) were) in
    subst (λ ns. AreSlots (plain_of ns c.loop-value.nodes value) rows slots) (sym names_are) are

pub add_rows-requires-clause-fits : goal.add_rows-requires-clause-fits
add_rows-requires-clause-fits c =
    let tree = c.args.self in
    let value = c.loop-value.value in
    let rows = c.args.batch.now.rows in
    let names_are : c.self.inside.names ≡ tree.names = ap (λ t. t.names) c.self.view_is in
    let tree_is : tree_of tree.names c.self.inside.nodes ≡ tree =
    ap (λ ns. tree_of ns c.self.inside.nodes) (sym (ap (λ t. t.names) c.self.view_is)) ∙ c.self.view_is in
    let total = ap (λ ns. total_of (node_rows ns (nodes_of c.loop-value.nodes value))) names_are
    ∙ total_now tree.names c.self.inside.nodes c.loop-value.nodes rows value c.loop-value.invariant
    ∙ ap (λ (t : TreeState). total_of (nodes_at t value)) tree_is in
    omega (arith, total, c.requires.fits value)

pub loop-value-preserved : goal.loop-value-preserved
loop-value-preserved c =
    let tree = c.args.self in
    let value = c.loop-value.value in
    let rows = c.args.batch.now.rows in
    let names_are : c.self.inside.names ≡ tree.names = ap (λ t. t.names) c.self.view_is in
    let added = c.in_ok-add_rows.ensures in
    AreAddedTo-step
    tree.names c.self.inside.nodes c.loop-value.nodes rows value c.loop-value.invariant c.add_rows.new.nodes
    (subst (λ ns. AreTrees ns c.add_rows.new.nodes) names_are added.trees.trees) added.trees.width
    (subst (λ ns. IsCredited (plain_of ns c.loop-value.nodes value)
    (plain_of ns c.add_rows.new.nodes value) (rows_at value rows)) names_are added.credited)
    added.trees.others

pub invariant_of-result : goal.invariant_of-result
invariant_of-result c =
    let tree = c.args.self in
    let before = c.self.inside.nodes in
    let now = c.loop-value.nodes in
    let batch = c.args.batch.now in
    let names_are : c.self.inside.names ≡ tree.names = ap (λ t. t.names) c.self.view_is in
    let width_is : length before ≡ tree.width = ap (λ t. t.width) c.self.view_is in
    let all : c.loop-value.value ≡ length before = omega
    (arith, c.loop-value-test.false, c.loop-value.auto.value-end, c.get-value-end.ensures.count, c.width.ensures) in
    let credited = subst (AreCredited (tree_of tree.names before) (tree_of tree.names now) batch.rows)
    all c.loop-value.invariant.credited in
    let held = subst (λ ns. HasTotal (tree_of ns before) c.self.inside.total) names_are c.self.invariant.1 in (
      subst (λ ns. AreTrees ns now) (sym names_are) c.loop-value.invariant.trees,
      subst (λ ns. HasTotal (tree_of ns now) c.plus.result) (sym names_are)
          (HasTotal-credited (tree_of tree.names before) (tree_of tree.names now)
          batch c.self.inside.total c.total.result c.plus.result held c.total.ensures.totals
          (c.requires.width ∙ sym width_is) credited c.plus.ensures.width c.plus.ensures.each),
    )
