use Rattle.pprof_profile.proofs.Plain.{spelled_plain}
use Rattle.pprof_profile.proofs.laws.gzip_spells_no_draft.Goals as goal

pub returns : goal.returns
returns c = spelled_plain
