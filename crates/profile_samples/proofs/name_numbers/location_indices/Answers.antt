-- The ids are those of all locations, in order.
use Rattle.std.proofs.Common.{rules, ◌≡◌, map}
use Rattle.std.proofs.lemmas.Iterator.{YieldsList-from_map, YieldsList-from_slice, items_from_collect}
use Rattle.std.proofs.lemmas.Iterator.Consumers.{YieldsList-at}
use Rattle.std.proofs.lemmas.Result.{IfOk-at_ok}
use Rattle.pprof_profile.specs.declared.messages.Location.{Location}
use Rattle.profile_samples.proofs.name_numbers.location_indices.Goals as goal

pub returns : goal.returns
returns c =
    let locations = c.as_slice-locations.result.now in
    let collected : c.in_ok-ids.ids.items ≡ map (λ (location : Location). location.id) locations =
    IfOk-at_ok _ c.in_ok-ids.was (items_from_collect _ c.collect.ensures.ran (YieldsList-from_map _
    (λ (location : Location). location.id) (YieldsList-at c.map.ensures.source
    (YieldsList-from_slice locations c.iter.ensures.rest)) c.map.ensures.closure (λ x r q k. search rules))) in
    search (rules, collected, c.as_slice-locations.ensures)
