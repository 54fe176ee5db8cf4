use Rattle.std.proofs.Common.{◌≡◌, sym, subst}
use Rattle.pprof_profile.specs.declared.messages.Draft.{Draft}
use Rattle.pprof_profile.specs.Valid.{IsValidDraft}
use Rattle.pprof_profile.specs.Profiles.{IsProfile}
use Rattle.pprof_profile.specs.Canonical.{canonical_bytes_of}
use Rattle.pprof_profile.proofs.Plain.{canonical_profile}
use Rattle.pprof_profile.proofs.profile.encode.Goals as goal

pub returns-clause-spelled : goal.returns-clause-spelled
returns-clause-spelled c =
    let draft = c.draft.result.now in
    let same : draft ≡ c.args.profile.now = c.draft.ensures.draft in
    let valid : IsValidDraft draft = subst (λ (d : Draft). IsValidDraft d) (sym same) c.draft.ensures.valid in
    rw (c.in_ok-write.ensures.written, c.new-bytes.ensures.items)
    (subst (λ (d : Draft). IsProfile (canonical_bytes_of draft) d) same
    (canonical_profile draft c.in_ok-write.ensures.fits valid))
