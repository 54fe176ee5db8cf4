use Rattle.std.specs.Arc.{arc_value}
use Rattle.shared_pages.proofs.InPages.{ArePut}
use Rattle.shared_pages.proofs.pages.put_all.Given as goal

-- the items so far are put
abbrev pub invariant-loop-index : goal.invariant-loop-index
invariant-loop-index g l = ArePut (arc_value l.initial.shelves) (arc_value l.shelves) l.from l.items l.index
