-- Entries for ids that lie close together.
use Rattle.std.specs.Prelude.{ℕ, ◌≡◌, ◌-◌, List, Option, None, cond, nat_lt, slice_get}
use Rattle.std.specs.Option.{IfSome}

-- the entry of an id, in a table that begins with a number
abbrev pub entry_of : {A : Type 0} → ℕ × List A → ℕ → Option A
entry_of table id = cond (nat_lt id table.0) None (slice_get table.1 (id - table.0))

-- all entries of a table are this one
abbrev pub AreAll : {A : Type 0} → A → ℕ × List A → Type 0
AreAll entry table = (id : ℕ) → IfSome (entry_of table id) (λ other. other ≡ entry)
