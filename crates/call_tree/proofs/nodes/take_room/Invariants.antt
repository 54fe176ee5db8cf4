use Rattle.call_tree.proofs.Weighing.{HaveRoom}
use Rattle.call_tree.proofs.nodes.take_room.Given as goal

abbrev pub invariant-loop-index : goal.invariant-loop-index
invariant-loop-index l = HaveRoom l.size l.initial.tables.items l.tables.items l.index
