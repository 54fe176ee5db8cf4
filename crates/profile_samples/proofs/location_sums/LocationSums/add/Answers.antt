-- A list weighs more.
use Rattle.std.proofs.Common.{◌≡◌, ◌<◌, ◌+◌, ◌^◌, arith, length, rules, vec_len}
use Rattle.profile_samples.specs.LocationSums.{location_sums, total_of_sums}
use Rattle.profile_samples.proofs.LocationSums.{many_sums, total_of_sums-raised, weight_within, weights_raised}
use Rattle.profile_samples.proofs.location_sums.LocationSums.add.Goals as goal

pub index_mut-requires : goal.index_mut-requires
index_mut-requires c =
    let lists = c.self.inside.samples.now.lists in
    let weights = c.self.inside.weights.items in
    let lt : c.args.number < length (location_sums lists weights) = rw c.self.view_is c.requires.inside in
    let same = c.self.invariant.0 in
    let held : vec_len c.self.inside.weights ≡ length weights = search rules in
    omega (arith, lt, held, same, many_sums lists weights same)

pub overflow_add-index_mut : goal.overflow_add-index_mut
overflow_add-index_mut c =
    let lists = c.self.inside.samples.now.lists in
    let weights = c.self.inside.weights.items in
    let same = c.self.invariant.0 in
    let lt : c.args.number < length (location_sums lists weights) = rw c.self.view_is c.requires.inside in
    let within = weight_within lists weights c.args.number c.index_mut.result.now same
    (omega (arith, lt, many_sums lists weights same)) c.index_mut.ensures.value in
    let fits : total_of_sums (location_sums lists weights) + c.args.weight < 2 ^ 63 =
    rw c.self.view_is c.requires.fits in
    omega (arith, within, fits)

pub invariant_of-self : goal.invariant_of-self
invariant_of-self c =
    let lists = c.self.inside.samples.now.lists in
    let weights = c.self.inside.weights.items in
    let (same, total, most) = c.self.invariant in
    let lt : c.args.number < length (location_sums lists weights) = rw c.self.view_is c.requires.inside in
    let raised = weights_raised lists weights c.args.number c.index_mut.result.now c.args.weight same
    (omega (arith, lt, many_sums lists weights same)) c.index_mut.ensures.value in
    let more = total_of_sums-raised (location_sums lists weights) c.args.number c.args.weight lt in
    let fits : total_of_sums (location_sums lists weights) + c.args.weight < 2 ^ 63 =
    rw c.self.view_is c.requires.fits in
    (search rules, rw raised (omega (arith, total, more)), omega (arith, total, fits))

pub returns : goal.returns
returns c =
    let lists = c.self.inside.samples.now.lists in
    let weights = c.self.inside.weights.items in
    let same = c.self.invariant.0 in
    let lt : c.args.number < length (location_sums lists weights) = rw c.self.view_is c.requires.inside in
    rw (← c.self.view_is) (weights_raised lists weights c.args.number c.index_mut.result.now c.args.weight same
    (omega (arith, lt, many_sums lists weights same)) c.index_mut.ensures.value)
