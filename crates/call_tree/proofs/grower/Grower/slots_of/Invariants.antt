use Rattle.call_tree.specs.State.{AreGrown, plain_at}
use Rattle.call_tree.specs.Plans.{AreFirstSlots}
use Rattle.call_tree.proofs.grower.Grower.slots_of.Given as goal

abbrev pub invariant-loop-row : goal.invariant-loop-row
invariant-loop-row l =
    AreGrown l.initial.self l.self × AreFirstSlots (plain_at l.self 0) l.rows l.slots.items l.row-index
