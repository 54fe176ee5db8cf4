-- What a store has for the rows and the options of `live`.
use Rattle.std.specs.Prelude.{ℕ, ◌+◌, ◌-◌, ◌^◌, cond, min}
use Rattle.flame_words.specs.LiveOptions.{PlainOptions}

-- how many sessions a store has for them: one for each worker, and that of a warm start
abbrev pub sessions_for : PlainOptions → ℕ
sessions_for options = options.sessions + cond options.warm 1 0

-- how many changes a store takes for them and so many rows: one for each row and for each worker, and the addition and
-- the reset of a warm start; never more than a number of 32 bits can say
abbrev pub changes_for : PlainOptions → ℕ → ℕ
changes_for options rows = min (rows + options.sessions + cond options.warm 2 0) (2 ^ 32 - 1)
