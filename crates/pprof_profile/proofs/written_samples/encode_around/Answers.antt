use Rattle.std.proofs.Common.{rules, ◌≡◌, ℕ, List, sym, subst}
use Rattle.pprof_profile.specs.declared.messages.Draft.{Draft}
use Rattle.pprof_profile.specs.Canonical.{canonical_bytes_of}
use Rattle.pprof_profile.specs.Profiles.{SpellsDraft, IsProfile}
use Rattle.pprof_profile.proofs.Plain.{canonical_profile, draft_back}
use Rattle.pprof_profile.proofs.written_samples.encode_around.Goals as goal

pub returns-clause-spelled : goal.returns-clause-spelled
returns-clause-spelled c = λ items same fits.
    let draft : Draft = record c.args.draft.now { samples = items } in
    let written : c.write_around_samples.new.out.items ≡ canonical_bytes_of draft = search rules in
    subst (λ (bytes : List ℕ). SpellsDraft bytes draft) (sym written)
    (draft_back draft (c.in_ok-write_around_samples.ensures.fits items fits))

pub returns-clause-profile : goal.returns-clause-profile
returns-clause-profile c = λ items same fits valid.
    let draft : Draft = record c.args.draft.now { samples = items } in
    let written : c.write_around_samples.new.out.items ≡ canonical_bytes_of draft = search rules in
    subst (λ (bytes : List ℕ). IsProfile bytes draft) (sym written)
    (canonical_profile draft (c.in_ok-write_around_samples.ensures.fits items fits) valid)
