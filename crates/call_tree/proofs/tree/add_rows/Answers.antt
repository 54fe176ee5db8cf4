use Rattle.std.proofs.lemmas.Grind.{common_steps}
use Rattle.std.proofs.Common.{◌<◌, length, arith, refl, ◌∙◌}
use Rattle.call_tree.specs.Nodes.{plain_of}
use Rattle.call_tree.proofs.Shapes.{length-node_rows}
use Rattle.call_tree.proofs.Planned.{IsCredited-step, credit_fits, credit_within}
use Rattle.call_tree.proofs.tree.add_rows.Goals as goal

pub add_weight-requires-clause-within : goal.add_weight-requires-clause-within
add_weight-requires-clause-within c = grind (arith, common_steps, length-node_rows, credit_within)

pub add_weight-requires-clause-fits : goal.add_weight-requires-clause-fits
add_weight-requires-clause-fits c =
    let names = c.args.names.now in
    let value = c.args.value in
    let rows = c.args.batch.now.rows in
    let lt : c.loop-index.index < length rows = omega (arith, c.loop-index-test.true, c.requires.slots.size) in
    credit_fits (plain_of names c.args.nodes.now value)
    (plain_of names c.loop-index.nodes value) value rows c.args.slots.now c.requires.slots c.requires.fits
    c.loop-index.index lt c.loop-index.invariant.done c.weight-weight.result c.weight-weight.ensures

pub loop-index-preserved : goal.loop-index-preserved
loop-index-preserved c =
    let names = c.args.names.now in
    let value = c.args.value in
    let rows = c.args.batch.now.rows in
    let so_far = c.loop-index.invariant in
    let lt : c.loop-index.index < length rows = omega (arith, c.loop-index-test.true, c.requires.slots.size) in
    let added = c.in_ok-add_weight.ensures in
    record {
      trees = record {
        trees = added.0.trees;
        width = added.0.width ∙ so_far.trees.width;
        others = λ other ne. added.0.others other ne ∙ so_far.trees.others other ne;
      };
      done = IsCredited-step (plain_of names c.args.nodes.now value)
          (plain_of names c.loop-index.nodes value) value rows c.args.slots.now c.requires.slots c.requires.fits
          c.loop-index.index lt so_far.done c.weight-weight.result c.weight-weight.ensures
          (plain_of names c.add_weight.new.nodes value) refl added.1;
    }
