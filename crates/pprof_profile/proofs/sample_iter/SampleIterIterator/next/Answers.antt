use Rattle.std.proofs.Common.{rules}
use Rattle.std.proofs.lemmas.List.{drop_more}
use Rattle.std.proofs.lemmas.Option.{get_or_from_slice_get, slice_get_within}
use Rattle.pprof_profile.proofs.sample_iter.SampleIterIterator.next.Goals as goal

-- src/sample_iter.rt:44:5
pub returns-clause-steps : goal.returns-clause-steps
returns-clause-steps c =
    let samples = c.self.inside.samples.now in
    let at = c.self.inside.at in
    let sample = c.at-sample.result in
    let within = slice_get_within samples at sample c.at-sample.ensures in
    let found = get_or_from_slice_get samples at sample sample c.at-sample.ensures in
    let left = drop_more samples at sample within in
    search rules
