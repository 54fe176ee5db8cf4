use Rattle.std.proofs.lemmas.Grind.{common_steps}
use Rattle.std.proofs.Common.{arith}
use Rattle.std.proofs.lemmas.List.{get_or_read}
use Rattle.profile_rows.proofs.SameNames.{same_from_is_same_name}
use Rattle.call_tree.proofs.Trees.{seen_plain}
use Rattle.call_tree.proofs.Shapes.{length-node_rows, stack_at-child}
use Rattle.call_tree.proofs.tree.CallTree.number_below.Goals as goal

pub returns-then-eq : goal.returns-then-eq
returns-then-eq c =
    grind (arith, common_steps, get_or_read, same_from_is_same_name, seen_plain, length-node_rows, stack_at-child)
