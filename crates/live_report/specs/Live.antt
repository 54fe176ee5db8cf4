-- What `live` writes of a batch.
use Prim.Native.Nat.{zero, suc}
use Rattle.std.specs.Prelude.{ℕ, ◌+◌, ◌*◌, Bool, cond, List, [], ◌++◌, codes, length}
use Rattle.std.specs.Fmt.{decimal}
use Rattle.folded_text.specs.FoldedText.{folded_text_of}
use Rattle.profile_rows.specs.Values.{BatchState, Row, rows_at}
use Rattle.flame_words.specs.LiveOptions.{PlainOptions}

-- the folded report of one value
abbrev pub folded_at : ℕ → List Row → List ℕ
folded_at value rows = folded_text_of (rows_at value rows)

-- the folded report of a value below its number
abbrev pub titled_at : ℕ → List Row → List ℕ
titled_at value rows = codes "value " ++ decimal value ++ codes "\n" ++ folded_at value rows

-- those of so many values, the first of this number
abbrev pub titled_from : ℕ → ℕ → List Row → List ℕ
titled_from value zero rows = []
titled_from value (suc more) rows = titled_at value rows ++ titled_from (value + 1) more rows

-- the folded report of each value, where all are asked for, else of the first
abbrev pub reports_of : Bool → BatchState → List ℕ
reports_of all batch = cond all (titled_from 0 batch.width batch.rows) (folded_at 0 batch.rows)

-- how many operations the workers make: an addition for each row, and for each worker a total of each value
abbrev pub operations_of_workers : ℕ → BatchState → ℕ
operations_of_workers sessions batch = length batch.rows + sessions * batch.width

-- how many operations all sessions make: a warm start has an addition, a total and a reset
abbrev pub operations_in : PlainOptions → BatchState → ℕ
operations_in options batch = cond options.warm 3 0 + operations_of_workers options.sessions batch

-- how many operations were audited
abbrev pub count_line : ℕ → List ℕ
count_line operations = codes "audited " ++ decimal operations ++ codes " operations\n"

-- the reports, and how many operations were audited
abbrev pub live_text_of : PlainOptions → BatchState → List ℕ
live_text_of options batch = reports_of options.all batch ++ count_line (operations_in options batch)
