use Rattle.std.proofs.Common.{ℕ, ◌≡◌, ◌<◌, take, true}
use Rattle.std.specs.List.{list_all}
use Rattle.pprof_profile.specs.KnownIds.{knows}
use Rattle.pprof_profile.specs.LocationLists.{list_at}
use Rattle.pprof_profile.specs.Valid.{names_locations}
use Rattle.pprof_profile.proofs.validity.locations_are_known.Given as goal

-- the locations of the samples so far are known, and those of the first lists
abbrev pub invariant-loop-index : goal.invariant-loop-index
invariant-loop-index l =
    (names_locations (knows l.known) (take l.index l.samples.samples) ≡ true)
    × ((number : ℕ) → number < l.first → list_all (knows l.known) (list_at l.samples.lists number) ≡ true)
