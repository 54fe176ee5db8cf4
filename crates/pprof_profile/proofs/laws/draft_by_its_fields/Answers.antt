use Rattle.pprof_profile.specs.Messages.{draft_form}
use Rattle.pprof_profile.proofs.Forms.{form_made, form_gathered}
use Rattle.pprof_profile.proofs.LawfulForms.{draft_lawful}
use Rattle.pprof_profile.proofs.laws.draft_by_its_fields.Goals as goal

pub returns : goal.returns
returns c = λ bytes draft. (
  λ spelled. record {
    fields = spelled.fields;
    listed = spelled.listed;
    is = form_made draft_form draft_lawful spelled.fields draft spelled.gathered;
  },
  λ has. record {
    fields = has.fields;
    listed = has.listed;
    gathered = form_gathered draft_form draft_lawful has.fields draft has.is;
  },
)
