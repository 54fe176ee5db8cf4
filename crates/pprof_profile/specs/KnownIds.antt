-- A set of ids, of which a table has those that lie close together.
use Rattle.std.specs.Prelude.{ℕ, Bool, false, ◌||◌, unwrap_or}
use Rattle.std.specs.Ordering.{nat_cmp}
use Rattle.std.specs.BTreeSet.{contains}
use Rattle.pprof_profile.specs.NearTables.{entry_of}
use Rattle.pprof_profile.specs.declared.ids.KnownIds.{KnownIds}

abbrev pub knows : KnownIds → ℕ → Bool
knows ids id = unwrap_or (entry_of ids.near id) false || contains nat_cmp ids.far id
