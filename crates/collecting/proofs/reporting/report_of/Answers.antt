-- The texts are those of the tree's weights, and these add up to what the logs tell of.
use Rattle.profile_store.specs.State.{weights_of}
use Rattle.collecting.proofs.reporting.report_of.Goals as goal

pub stack_texts-requires : goal.stack_texts-requires
stack_texts-requires c = c.in_ok-tree.ensures.wide

pub of_texts-requires : goal.of_texts-requires
of_texts-requires c = (weights_of c.in_ok-tree.tree.now 0, rw c.as_slice.ensures.value c.in_ok-texts.ensures)
