use Rattle.std.proofs.lemmas.Grind.{common_steps}
use Rattle.std.proofs.Common.{arith}
use Rattle.std.proofs.lemmas.List.{take_all}
use Rattle.call_tree.proofs.Weighty.{weighted, weightless}
use Rattle.call_tree.proofs.tree.CallTree.weighted_rows.Goals as goal
use Rattle.call_tree.proofs.tree.CallTree.weighted_rows.Goals.{then-weight-gt0+in_ok-stack+in_ok-map_err}
use Rattle.call_tree.proofs.tree.CallTree.weighted_rows.Goals.{else-weight-gt0}

pub loop-index-preserved : goal.loop-index-preserved
loop-index-preserved c =
    grind (arith, common_steps, weighted, weightless, then-weight-gt0+in_ok-stack+in_ok-map_err, else-weight-gt0)

pub returns : goal.returns
returns c = grind (arith, common_steps, take_all)
