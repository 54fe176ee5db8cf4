-- There are as many sums as lists.
use Rattle.std.proofs.Common.{◌≡◌, ◌∙◌, length, rules, sym, vec_len}
use Rattle.profile_samples.proofs.LocationSums.{many_sums}
use Rattle.profile_samples.proofs.location_sums.LocationSums.len.Goals as goal

pub returns-clause-count : goal.returns-clause-count
returns-clause-count c =
    let same = c.self.invariant.0 in
    let held : vec_len c.self.inside.weights ≡ length c.self.inside.weights.items = search rules in
    rw (← c.self.view_is) (c.len.ensures ∙ held ∙ same
    ∙ sym (many_sums c.self.inside.samples.now.lists c.self.inside.weights.items same))
