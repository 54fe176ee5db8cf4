-- Each entry is the one that was given.
use Rattle.std.proofs.Common.{◌≡◌, ◌∙◌, ℕ, ◌-◌, Bool, None, true, false, cond, replicate, nat_lt, inl, inr, sym, arith}
use Rattle.std.specs.Prelude.{slice_get}
use Rattle.std.specs.Option.{IfSome}
use Rattle.std.proofs.lemmas.List.{get_or-replicate, length-replicate}
use Rattle.std.proofs.lemmas.Option.{slice_get_cases}
use Rattle.pprof_profile.proofs.near_table.NearTable.new.Goals as goal

each_is : {A : Type 0} (entry : A) (count at : ℕ) → IfSome (slice_get (replicate count entry) at) (λ it. it ≡ entry)
each_is entry count at = elim (slice_get_cases (replicate count entry) at).1 [
  | inl (it, within, is, read) ↦ rw is
      (sym read ∙ get_or-replicate count at entry it (omega (arith, within, length-replicate count entry)))
  | inr (past, none) ↦ rw none tt
]

from_lowest : {A : Type 0} (entry : A) (count lowest id : ℕ) (below : Bool)
    → IfSome (cond below None (slice_get (replicate count entry) (id - lowest))) (λ it. it ≡ entry)
from_lowest entry count lowest id true = tt
from_lowest entry count lowest id false = each_is entry count (id - lowest)

pub returns : goal.returns
returns g c = λ equal id.
    rw (c.in_ok-vec.ensures.items_if_clones_equal equal)
    (from_lowest c.args.entry c.table_len.result c.args.range.lowest id (nat_lt id c.args.range.lowest))
