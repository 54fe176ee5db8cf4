-- What a person can ask of `live`.
use Rattle.std.specs.Prelude.{ℕ, ◌-◌, ◌==◌, ◌&&◌, Bool, cond, nat_le, not, Option, Some, None, if◌then◌else◌}
use Rattle.op_book.specs.Runs.{most_sessions}

-- how many workers add the rows, whether the report of each value is written, and whether a session before the workers
-- adds all rows and resets the store
pub record PlainOptions : Type 0 where
  pub sessions : ℕ
  pub all : Bool
  pub warm : Bool

-- how many workers there can be: a warm start takes one of a store's sessions
abbrev pub most_workers : Bool → ℕ
most_workers warm = cond warm (most_sessions - 1) most_sessions

-- options with so many workers, where there can be so many
abbrev pub options_of : ℕ → Bool → Bool → Option PlainOptions
options_of sessions all warm =
    if not (sessions == 0) && nat_le sessions (most_workers warm)
    then Some (record { sessions = sessions; all = all; warm = warm })
    else None
