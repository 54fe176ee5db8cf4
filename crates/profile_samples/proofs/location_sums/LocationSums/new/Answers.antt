-- No list weighs anything yet.
use Rattle.std.proofs.Common.{◌≡◌, ◌∙◌, ap, arith, length, rules, sym}
use Rattle.std.specs.Prelude.{replicate}
use Rattle.profile_samples.specs.LocationSums.{location_sums, total_of_sums}
use Rattle.profile_samples.proofs.LocationSums.{total_of-without_weight, without_weight}
use Rattle.profile_samples.proofs.location_sums.LocationSums.new.Goals as goal

pub invariant_of-result : goal.invariant_of-result
invariant_of-result c =
    let lists = c.args.samples.now.lists in
    let zeros : c.in_ok-weights.weights.items ≡ replicate (length lists) 0 = search rules in (
      search rules,
      sym (ap (λ weights. total_of_sums (location_sums lists weights)) zeros ∙ ap total_of_sums (without_weight lists)
          ∙ total_of-without_weight lists),
      omega arith,
    )

pub returns : goal.returns
returns c =
    let zeros : c.in_ok-weights.weights.items ≡ replicate (length c.args.samples.now.lists) 0 = search rules in
    rw zeros (without_weight c.args.samples.now.lists)
