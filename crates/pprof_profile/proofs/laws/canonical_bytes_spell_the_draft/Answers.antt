use Rattle.pprof_profile.proofs.Plain.{canonical_profile, draft_back}
use Rattle.pprof_profile.proofs.laws.canonical_bytes_spell_the_draft.Goals as goal

pub returns : goal.returns
returns c = record { draft = draft_back; profile = canonical_profile }
