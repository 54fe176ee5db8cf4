-- An aggregate as a map from stacks that are lent.
use Rattle.std.specs.Prelude.{ℕ, List, map}
use Rattle.std.specs.BTreeMap.{BTreeMap}
use denote.Ref.{Bor}
use Rattle.profile_rows.specs.Values.{Row}

abbrev pub lent_row : Bor (List (List ℕ)) × List ℕ → Row
lent_row entry = record { stack = entry.0.now; weights = entry.1 }

-- the stacks and their values, in order
abbrev pub lent_rows : BTreeMap (Bor (List (List ℕ))) (List ℕ) → List Row
lent_rows weights = map lent_row weights.entries
