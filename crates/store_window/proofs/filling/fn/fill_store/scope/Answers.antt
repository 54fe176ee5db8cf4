-- What threads share may be shared.
use Rattle.store_window.proofs.filling.fn.fill_store.scope.Goals as goal

pub fill_slots-requires-after_bounds : goal.fill_slots-requires-after_bounds
fill_slots-requires-after_bounds g c κs within = c.requires
