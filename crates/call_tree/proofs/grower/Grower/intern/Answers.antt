use Rattle.std.proofs.lemmas.Grind.{common_steps}
use Rattle.std.proofs.Common.{arith}
use Rattle.call_tree.proofs.Indexing.{if_ok_more, named_at, unnamed}
use Rattle.call_tree.proofs.grower.Grower.intern.Goals as goal

pub add_name-requires : goal.add_name-requires
add_name-requires c = grind (arith, unnamed)

pub returns-in-Some-clause-number : goal.returns-in-Some-clause-number
returns-in-Some-clause-number c = grind (arith, common_steps, if_ok_more, named_at)
