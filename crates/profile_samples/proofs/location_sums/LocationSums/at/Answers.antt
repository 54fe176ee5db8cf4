-- A sum's list and weight stand at its number.
use Rattle.std.proofs.Common.{ℕ, List, ◌≡◌, ◌<◌, ◌∙◌, Some, ap, arith, length, rules, sym, vec_len}
use Rattle.profile_samples.specs.LocationSums.{LocationSum, location_sums}
use Rattle.profile_samples.proofs.LocationSums.{many_sums, sum_there}
use Rattle.profile_samples.proofs.location_sums.LocationSums.at.Goals as goal

pub list-requires : goal.list-requires
list-requires c =
    let lists = c.self.inside.samples.now.lists in
    let weights = c.self.inside.weights.items in
    let same = c.self.invariant.0 in
    let lt : c.args.number < length (location_sums lists weights) = rw c.self.view_is c.requires in
    omega (arith, lt, many_sums lists weights same)

pub index-requires : goal.index-requires
index-requires c =
    let lists = c.self.inside.samples.now.lists in
    let weights = c.self.inside.weights.items in
    let same = c.self.invariant.0 in
    let lt : c.args.number < length (location_sums lists weights) = rw c.self.view_is c.requires in
    let held : vec_len c.self.inside.weights ≡ length weights = search rules in
    omega (arith, lt, held, same, many_sums lists weights same)

pub returns : goal.returns
returns c =
    let lists = c.self.inside.samples.now.lists in
    let weights = c.self.inside.weights.items in
    let same = c.self.invariant.0 in
    let lt : c.args.number < length (location_sums lists weights) = rw c.self.view_is c.requires in
    let weight = c.index.result.now in
    let sum_of : List ℕ → LocationSum = λ ids. record { ids = ids; weight = weight } in
    rw (← c.self.view_is) (sum_there lists weights c.args.number weight same
    (omega (arith, lt, many_sums lists weights same)) c.index.ensures
    ∙ ap (λ ids. Some (sum_of ids)) (sym c.list.ensures))
