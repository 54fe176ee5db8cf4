-- Packed ids are those of the field.
use Rattle.std.proofs.Common.{refl, rules}
use Rattle.std.proofs.lemmas.List.{append-nil}
use Rattle.pprof_profile.proofs.samples.SampleLists.take_field.Goals as goal

pub returns-in_err-take_list-in-Bytes-clause-taken :
    goal.returns-in_err-take_list-in-Bytes-clause-taken
returns-in_err-take_list-in-Bytes-clause-taken c =
    rw (c.if-field-eq1.true, c.in-Bytes.is) (search rules)

pub returns-in_ok-take_list-in-Bytes-clause-taken :
    goal.returns-in_ok-take_list-in-Bytes-clause-taken
returns-in_ok-take_list-in-Bytes-clause-taken c =
    let (empty, lt, spelled) = c.in_ok-take_list-in-Bytes.ensures.taken in
    (lt, rw (c.if-field-eq1.true, c.in-Bytes.is, c.requires, empty, append-nil _) (spelled, refl))
