use Rattle.std.proofs.Common.{arith}
use Rattle.call_tree.proofs.Growing.{weights-root}
use Rattle.call_tree.proofs.grower.Grower.with_hashing.Goals as goal

pub returns : goal.returns
returns c = grind (arith, weights-root)
