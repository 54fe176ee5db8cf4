-- How the rows of a batch are dealt to workers.
use Prim.Native.Nat.{zero, suc}
use Rattle.std.specs.Prelude.{ℕ, ◌≡◌, ◌<◌, ◌+◌, ◌-◌, ◌*◌, Option, Some, None, List, [], ◌∷◌, ◌++◌, IsSomeAnd, cond}
use Rattle.std.specs.Prelude.{get_or, length, map, slice_get, sum_by}
use Rattle.profile_rows.specs.Values.{BatchState, Row}
use Rattle.flame_report.specs.declared.query.Kind.TheVariants.{Total}
use Rattle.op_book.specs.Operations.{PlainOp, add, ask, reset}
use Rattle.op_book.specs.declared.entry.SessionLog.{SessionLog}
use Rattle.live_store.specs.Workers.{ops_told}
use Rattle.flame_words.specs.LiveOptions.{PlainOptions}

-- the addition of a row, as a batch of its own
abbrev pub addition : ℕ → Row → PlainOp
addition width row = add (record { width = width; rows = row ∷ [] })

-- a question for the total of a value
abbrev pub total_at : ℕ → PlainOp
total_at value = ask (record { focus = None; ignore = None; value = value; kind = Total })

-- those of so many values, the first of this number
abbrev pub totals_from : ℕ → ℕ → List PlainOp
totals_from value zero = []
totals_from value (suc more) = total_at value ∷ totals_from (value + 1) more

-- what the session of a warm start is told, where there is one: the whole batch, its total, and a reset
abbrev pub warm_lists : Option BatchState → List (List PlainOp)
warm_lists None = []
warm_lists (Some batch) = (add batch ∷ total_at 0 ∷ reset ∷ []) ∷ []

-- the reset of a warm start, which is the third receipt of the first log, is the store's second change: it stands
-- after the addition of that log alone, and before all other changes
abbrev pub IsWarm : List SessionLog → Type 0
IsWarm logs = IsSomeAnd
    (slice_get logs 0) (λ (log : SessionLog). IsSomeAnd (slice_get log.receipts 2) (λ receipt. receipt.at ≡ 1))

-- what all operations of lists weigh
abbrev pub weigh : (PlainOp → ℕ) → List (List PlainOp) → ℕ
weigh weight lists = sum_by (sum_by weight) lists

-- the rows of a worker: the one after so many others, and then each that is as many rows further as there are workers
abbrev pub turns_of : ℕ → ℕ → List Row → List Row
turns_of workers before [] = []
turns_of workers zero (row ∷ rows) = row ∷ turns_of workers (workers - 1) rows
turns_of workers (suc before) (row ∷ rows) = turns_of workers before rows

-- Row after row goes to the next list, and each list ends with the totals. So the lists have the additions of all rows,
-- and all operations weigh as much as these and the totals do, however operations are weighed.
pub record AreDealt (batch : BatchState) (sessions : ℕ) (lists : List (List PlainOp)) : Type 0 where
  pub count : length lists ≡ sessions
  pub turns : (worker : ℕ) → worker < sessions → get_or lists worker []
      ≡ map (addition batch.width) (turns_of sessions worker batch.rows) ++ totals_from 0 batch.width
  pub same : (weight : PlainOp → ℕ) → weigh weight lists
      ≡ sum_by weight (map (addition batch.width) batch.rows) + sessions * sum_by weight (totals_from 0 batch.width)

-- the logs tell of the operations that a batch was dealt as, after a warm start where there is one
pub record AreLogsOf (options : PlainOptions) (batch : BatchState) (logs : List SessionLog) : Type 0 where
  pub lists : List (List PlainOp)
  pub dealt : AreDealt batch options.sessions lists
  pub told : map (λ (log : SessionLog). ops_told log.receipts) logs
      ≡ warm_lists (cond options.warm (Some batch) None) ++ lists

-- rows are dealt in turn: the number of the row that a worker adds in a step, where there is one
abbrev pub row_of_step : ℕ → ℕ → ℕ → ℕ
row_of_step workers worker step = worker + step * workers
