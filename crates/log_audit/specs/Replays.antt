-- What an audit finds when it goes through the receipts in the order of a run.
use Rattle.std.specs.Prelude.{ℕ, ◌≡◌, ◌<◌, ◌≤◌, ◌^◌, Option, Some, None, false, List, AllPairs, get_or, length, map}
use Rattle.std.specs.Prelude.{take}
use Rattle.profile_rows.specs.Aggregate.{aggregates_of}
use Rattle.profile_rows.specs.Rows.{total_of}
use Rattle.profile_rows.specs.Values.{rows_at, value_of}
use Rattle.call_tree.specs.State.{TreeState, weights_of}
use Rattle.op_book.specs.Receipts.{Precedes}
use Rattle.log_audit.specs.Matching.{LoggedReceipt}
use Rattle.op_book.specs.Operations.{PlainOp, PlainReceipt, changes_in, is_change, plain_answer, profile_after}
use Rattle.op_book.specs.Runs.{EachAfter}
use Rattle.log_audit.specs.declared.replay_state.ReplayState.{ReplayState}
use Rattle.log_audit.specs.declared.replay.Wrong.{Wrong}

-- what the receipts are of
abbrev pub ops_in : List LoggedReceipt → List PlainOp
ops_in all = map (λ (one : LoggedReceipt). one.receipt.op) all

-- each receipt may stand after all before it
abbrev pub AreRising : List LoggedReceipt → Type 0
AreRising all = AllPairs (λ earlier later. Precedes earlier.receipt later.receipt) all

-- each receipt's place is how many changes stand before it
abbrev pub AreNumbered : List LoggedReceipt → Type 0
AreNumbered all = EachAfter (λ before one. one.receipt.at ≡ changes_in (ops_in before)) all

-- the tree is the aggregate of what counts after these operations
abbrev pub IsTreeOf : List PlainOp → TreeState → Type 0
IsTreeOf operations tree = (value : ℕ) → weights_of tree value ≡ aggregates_of (profile_after operations) value

-- after each number of operations, what counts keeps the limit of each value
abbrev pub AreLight : List PlainOp → Type 0
AreLight operations = (count value : ℕ) → total_of (rows_at value (profile_after (take count operations))) < 2 ^ 63

-- what counts after so many of the receipts weighs by this value
abbrev pub total_after : List LoggedReceipt → ℕ → ℕ → ℕ
total_after all count value = total_of (rows_at value (profile_after (ops_in (take count all))))

-- what an audit keeps after so many of the receipts, of so many values: the totals of what counts after them, and a
-- tree of what counts after the first of them
pub record IsFollowed (all : List LoggedReceipt) (count width : ℕ) (followed : ReplayState) : Type 0 where
  pub totals : (value : ℕ) → value_of value followed.totals ≡ total_after all count value
  pub width_is : length followed.totals ≡ width
  pub wide : followed.grower.width ≡ width
  pub grown : followed.grown ≤ count
  pub tree : IsTreeOf (ops_in (take followed.grown all)) followed.grower

-- the receipt is of a change, or its reply the plain answer after these operations
abbrev pub IsToldPlainly : List PlainOp → PlainReceipt → Type 0
IsToldPlainly operations receipt = is_change receipt.op ≡ false
    → receipt.reply ≡ plain_answer operations receipt.op

-- a report's reply is the plain answer after the operations before it
abbrev pub IsPlain : List LoggedReceipt → LoggedReceipt → Type 0
IsPlain before one = IsToldPlainly (ops_in before) one.receipt

abbrev pub IsPlainAt : List LoggedReceipt → ℕ → LoggedReceipt → Type 0
IsPlainAt all at otherwise = IsPlain (take at all) (get_or all at otherwise)

-- of the first receipts with a wrong answer, this one has the lowest number
pub record IsLowest (all : List LoggedReceipt) (count : ℕ) (wrong : Wrong) : Type 0 where
  pub at : ℕ
  pub one : LoggedReceipt
  pub within : at < count
  pub one_is : one ≡ get_or all at one
  pub not_plain : IsPlain (take at all) one → ⊥
  pub number : wrong.number ≡ one.number
  pub session : wrong.session ≡ one.session
  pub index : wrong.index ≡ one.index
  pub lower : (other : ℕ) (otherwise : LoggedReceipt) → other < count
      → (get_or all other otherwise).number < wrong.number → IsPlainAt all other otherwise

-- the lowest of the first receipts with a wrong answer, where there is one
abbrev pub IsLowestOf : List LoggedReceipt → ℕ → Option Wrong → Type 0
IsLowestOf all count None = (at : ℕ) (otherwise : LoggedReceipt) → at < count → IsPlainAt all at otherwise
IsLowestOf all count (Some wrong) = IsLowest all count wrong
