-- Where ids stand.
use Rattle.std.specs.Prelude.{ℕ, suc, ◌≡◌, ◌≢◌, List, Option, Some, None, MatchOption, slice_get}
use Rattle.std.specs.Option.{option_or}
use Rattle.pprof_profile.specs.NearTables.{entry_of}

-- the index that is one less than an entry, where that isn't 0
abbrev pub index_before : Option ℕ → Option ℕ
index_before (Some (suc index)) = Some index
index_before entry = None

-- the index of an id, by the table and what is found elsewhere
abbrev pub index_found : ℕ × List ℕ → (ℕ → Option ℕ) → ℕ → Option ℕ
index_found near far id = option_or (index_before (entry_of near id)) (far id)

-- what is found for an id is an index at which it stands, and where none is found it stands nowhere
abbrev pub AreIdIndices : List ℕ → (ℕ → Option ℕ) → Type 0
AreIdIndices ids find =
    (id : ℕ) → MatchOption (find id)
    ((at : ℕ) → slice_get ids at ≢ Some id) (λ at. slice_get ids at ≡ Some id)
