use Rattle.shown_versions.proofs.Showing.{enters}
use Rattle.shown_versions.proofs.reader.answer_entered.Goals as goal

pub enter_as-requires : goal.enter_as-requires
enter_as-requires g c = enters _ _
