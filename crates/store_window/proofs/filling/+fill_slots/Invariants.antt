use Rattle.std.proofs.Common.{length}
use Rattle.store_window.proofs.filling.+fill_slots.Given as goal

-- the sources without a thread
abbrev pub decreases-fill_slots : goal.decreases-fill_slots
decreases-fill_slots g l = length l.slots.now
