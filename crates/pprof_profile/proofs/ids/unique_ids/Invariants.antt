use Rattle.std.proofs.Common.{◌≡◌, ℕ, false, map, take}
use Rattle.pprof_profile.specs.KnownIds.{knows}
use Rattle.pprof_profile.specs.Valid.{is_known, has_double}
use Rattle.pprof_profile.proofs.ids.unique_ids.Given as goal

abbrev pub invariant-loop-item : goal.invariant-loop-item
invariant-loop-item g l =
    let so-far = map g.T.HasId.id_of (take l.item-index l.items) in
    record {
      known : (id : ℕ) → knows l.ids id ≡ is_known so-far id;
      single : has_double so-far ≡ false;
    }
