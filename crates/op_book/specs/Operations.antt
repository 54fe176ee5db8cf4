-- Operations, their plain answers, and what a journal has of them.
use Prim.Native.Nat.{suc}
use Rattle.std.specs.Prelude.{ℕ, ◌≡◌, ◌≢◌, ◌<◌, ◌≤◌, ◌++◌, Bool, true, false, if◌then◌else◌, List, [], ◌∷◌}
use Rattle.std.specs.Prelude.{cond, count_by, map}
use Rattle.std.specs.List.{flat_map, list_any}
use Rattle.std.specs.Arc.{arc_value}
use Rattle.profile_rows.specs.Values.{BatchState, Row}
use Rattle.flame_report.specs.declared.answer.Answer.{Answer}
use Rattle.flame_report.specs.declared.query.Query.{Query}
use Rattle.flame_report.specs.Answers.{value_answer_of}
use Rattle.op_book.specs.declared.operation.Op.{Op}
use Rattle.op_book.specs.declared.operation.Op.TheVariants.{Add, Reset, Ask}
use Rattle.op_book.specs.declared.operation.Reply.{Reply}
use Rattle.op_book.specs.declared.operation.Reply.TheVariants.{Placed, Answered}

-- an operation by what it holds: a batch that is added, a reset, or a query that is asked
pub data PlainOp : Type 0 where
  add : BatchState → PlainOp
  reset : PlainOp
  ask : Query → PlainOp

-- a reply by what it holds: how many changes stood before, or an answer
pub data PlainReply : Type 0 where
  placed : ℕ → PlainReply
  answered : Answer → PlainReply

abbrev pub plain_op : Op → PlainOp
plain_op (Add batch) = add (arc_value batch)
plain_op Reset = reset
plain_op (Ask query) = ask (arc_value query)

abbrev pub plain_reply : Reply → PlainReply
plain_reply (Placed place) = placed place
plain_reply (Answered answer) = answered (arc_value answer)

-- an addition and a reset change the profile, and a report doesn't
abbrev pub is_change : PlainOp → Bool
is_change (add batch) = true
is_change reset = true
is_change (ask query) = false

abbrev pub is_reset : PlainOp → Bool
is_reset (add batch) = false
is_reset reset = true
is_reset (ask query) = false

-- how many of these operations are changes
abbrev pub changes_in : List PlainOp → ℕ
changes_in operations = count_by is_change operations

-- the batches that an operation adds
abbrev pub addition_of : PlainOp → List BatchState
addition_of (add batch) = batch ∷ []
addition_of reset = []
addition_of (ask query) = []

-- the batches that count after these operations, in order: an addition counts where no reset stands after it
abbrev pub batches_after : List PlainOp → List BatchState
batches_after [] = []
batches_after (op ∷ later) =
    if list_any is_reset later then batches_after later else addition_of op ++ batches_after later

-- the plain profile after these operations: the rows of the batches that count, one batch after the other
abbrev pub profile_after : List PlainOp → List Row
profile_after operations = flat_map (λ batch. batch.rows) (batches_after operations)

-- the place after the last reset of changes, 0 where there is none: the additions that count stand at it and after it
abbrev pub counting_from : List PlainOp → ℕ
counting_from [] = 0
counting_from (op ∷ later) = if list_any is_reset later then suc (counting_from later) else cond (is_reset op) 1 0

-- the rows that an operation adds to the profile
abbrev pub rows_added : PlainOp → List Row
rows_added (add batch) = batch.rows
rows_added reset = []
rows_added (ask query) = []

-- the operation is one of a profile whose rows have so many values: it adds such rows, or asks for one of the values
abbrev pub FitsWidth : ℕ → PlainOp → Type 0
FitsWidth width (add batch) = batch.width ≡ width
FitsWidth width reset = Unit {0}
FitsWidth width (ask query) = query.value < width

-- it isn't
abbrev pub MissesWidth : ℕ → PlainOp → Type 0
MissesWidth width (add batch) = batch.width ≢ width
MissesWidth width reset = ⊥
MissesWidth width (ask query) = width ≤ query.value

-- what the plain profile gives after these operations: a change's place among the changes, or the answer to a query
abbrev pub plain_answer : List PlainOp → PlainOp → PlainReply
plain_answer before (add batch) = placed (changes_in before)
plain_answer before reset = placed (changes_in before)
plain_answer before (ask query) = answered (value_answer_of (profile_after before) query)

-- a journal's entry: the operation of a session's turn, and its reply
pub record PlainEntry : Type 0 where
  pub session : ℕ
  pub turn : ℕ
  pub op : PlainOp
  pub reply : PlainReply

-- what a session is told of its operation: the reply, and its place. A change's place is that of its entry, and a
-- report's is how many changes it answers after.
pub record PlainReceipt : Type 0 where
  pub op : PlainOp
  pub reply : PlainReply
  pub at : ℕ

abbrev pub operations_of : List PlainEntry → List PlainOp
operations_of entries = map (λ (entry : PlainEntry). entry.op) entries
