-- The sums of all names, from the last node to the first.
use Rattle.std.proofs.lemmas.Grind.{common_steps}
use Rattle.std.proofs.Common.{◌<◌, ◌+◌, ◌-◌, ◌≡◌, ℕ, List, arith, subst}
use Rattle.std.proofs.Math.ListN.{replicate}
use Rattle.call_tree.specs.declared.node.Node.{Node}
use Rattle.call_tree.specs.declared.tree.reading.Sums.{Sums}
use Rattle.call_tree.specs.Shape.{IsTree}
use Rattle.call_tree.specs.Totals.{AreSums}
use Rattle.call_tree.specs.Nodes.{nodes_of}
use Rattle.call_tree.proofs.Trees.{seen_plain, value_lt, length-alike}
use Rattle.call_tree.proofs.Summing.{AreSumsFrom, AreSumsFrom-end, AreSumsFrom-next, AreSumsFrom-start, addable}
use Rattle.call_tree.proofs.tree.CallTree.sums.Goals as goal

pub loop-left-init : goal.loop-left-init
loop-left-init c = grind (arith, common_steps, replicate, value_lt, length-alike, AreSumsFrom-start)

-- the sums so far, for the slot before `left`
from : (names : List (List ℕ)) (nodes : List Node) (sums : List Sums) (below : List ℕ) (left : ℕ) → 1 < left
    → AreSumsFrom names nodes sums below left → AreSumsFrom names nodes sums below (left - 1 + 1)
from names nodes sums below left some so_far =
    let more : left ≡ left - 1 + 1 = omega (arith, some) in subst (AreSumsFrom names nodes sums below) more so_far

pub add_node-requires : goal.add_node-requires
add_node-requires c = grind (arith, common_steps, value_lt, addable, from)

pub loop-left-preserved : goal.loop-left-preserved
loop-left-preserved c = grind (arith, common_steps, value_lt, AreSumsFrom-next, from)

pub returns : goal.returns
returns c =
    let names = c.self.inside.names in
    let all = c.self.inside.nodes in
    let lt_value = value_lt names all c.args.self.now c.args.value c.self.view_is c.requires in
    let nodes = nodes_of all c.args.value in
    let tree : IsTree names nodes = c.self.invariant.0 c.args.value lt_value in
    subst (λ t. AreSums t c.loop-left.sums.items) (seen_plain names all c.args.self.now c.args.value c.self.view_is)
    (AreSumsFrom-end names nodes tree c.loop-left.sums.items c.loop-left.below.items c.loop-left.left
    (omega (arith, c.loop-left-test.false)) c.loop-left.invariant)
