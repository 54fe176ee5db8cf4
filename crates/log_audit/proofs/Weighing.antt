-- What logs, runs and journals weigh.
use Rattle.std.proofs.lemmas.Grind.{common_steps}
use Rattle.std.proofs.Common.{rules, ℕ, zero, suc, ◌≡◌, ◌<◌, ◌+◌, ◌-◌, Bool, true, false, cond, Option, Some, List}
use Rattle.std.proofs.Common.{[], ◌∷◌, ◌++◌, get_or, length, filter, map, take, ap, sym, subst, ◌∙◌, refl, arith}
use Rattle.std.specs.Prelude.{IsPermutation, nat_le, sum_by}
use Rattle.std.specs.List.{flat_map, list_any}
use Rattle.std.proofs.Math.ListN.{drop}
use Rattle.std.proofs.lemmas.Bool.{le-leb, lt-leb}
use Rattle.std.proofs.lemmas.List.{append-nil, append_assoc, map-append}
use Rattle.std.proofs.lemmas.List.Sorted.{sum_by-IsPermutation}
use Rattle.std.proofs.lemmas.List.Sums.{sum_by-append, sum_by-cons}
use Rattle.profile_rows.specs.Rows.{weight_of}
use Rattle.profile_rows.specs.Values.{BatchState, Row, rows_at}
use Rattle.log_audit.specs.Logs.{place_told, rows_from, rows_logged}
use Rattle.log_audit.specs.Matching.{LoggedReceipt, PlainStep, logged, logged_after, logged_from, step_of, steps_in}
use Rattle.op_book.specs.Operations.{PlainOp, PlainReceipt, PlainReply, add, reset, ask, placed}
use Rattle.op_book.specs.Operations.{addition_of, batches_after, changes_in, counting_from, is_change, is_reset}
use Rattle.op_book.specs.Operations.{plain_answer, profile_after, rows_added}
use Rattle.op_book.specs.Runs.{IsLegal}
use Rattle.op_book.specs.declared.entry.SessionLog.{SessionLog}
use Rattle.log_audit.proofs.Following.{change_answer}

-- ---- sums

pub sum_by-map : {X Y : Type 0} (f : Y → ℕ) (g : X → Y) (xs : List X) → sum_by f (map g xs) ≡ sum_by (λ x. f (g x)) xs
sum_by-map f g [] = refl
sum_by-map f g (x ∷ xs) = grind (arith, common_steps, sum_by-cons, sum_by-map f g xs)

-- ---- what logs tell

-- what the receipts of logs weigh, by their operations and replies
abbrev pub weigh_log : (PlainOp → PlainReply → ℕ) → List PlainReceipt → ℕ
weigh_log weight receipts = sum_by (λ (receipt : PlainReceipt). weight receipt.op receipt.reply) receipts

abbrev pub weigh_logs : (PlainOp → PlainReply → ℕ) → List SessionLog → ℕ
weigh_logs weight logs = sum_by (λ (log : SessionLog). weigh_log weight log.receipts) logs

from_log : (weight : PlainOp → PlainReply → ℕ)
    (number session index : ℕ) (earlier : Option PlainReceipt) (receipts : List PlainReceipt)
    → sum_by (λ (one : LoggedReceipt). weight one.receipt.op one.receipt.reply)
    (logged_from number session index earlier receipts) ≡ weigh_log weight receipts
from_log weight number session index earlier [] = refl
from_log weight number session index earlier (receipt ∷ later) =
    grind (arith, common_steps, sum_by-cons, from_log weight (number + 1) session (index + 1) (Some receipt) later)

from_logs : (weight : PlainOp → PlainReply → ℕ) (number : ℕ) (logs : List SessionLog)
    → sum_by (λ (one : LoggedReceipt). weight one.receipt.op one.receipt.reply) (logged_after number logs)
    ≡ weigh_logs weight logs
from_logs weight number [] = refl
from_logs weight number (log ∷ logs) =
    grind (
      arith,
      common_steps,
      sum_by-append,
      sum_by-cons,
      from_log,
      from_logs weight (number + length log.receipts) logs,
    )

-- a run of all receipts weighs what they do
pub run_weighs : (weight : PlainOp → PlainReply → ℕ) (logs : List SessionLog) (run : List PlainStep)
    → IsPermutation (steps_in logs) run
    → sum_by (λ (step : PlainStep). weight step.op step.reply) run ≡ weigh_logs weight logs
run_weighs weight logs run once =
    sum_by-IsPermutation (λ (step : PlainStep). weight step.op step.reply) (steps_in logs) run once
    ∙ sum_by-map (λ (step : PlainStep). weight step.op step.reply) step_of (logged logs)
    ∙ from_logs weight 0 logs

-- ---- what changes weigh

-- reports weigh nothing
pub of_changes : (weight : PlainOp → ℕ) → ((op : PlainOp) → is_change op ≡ false → weight op ≡ 0)
    → (operations : List PlainOp) → sum_by weight (filter is_change operations) ≡ sum_by weight operations
of_changes weight none [] = refl
of_changes weight none (op ∷ operations) =
    grind (arith, common_steps, sum_by-cons, none op, of_changes weight none operations)

-- what an operation adds to a stack by a value
abbrev pub added : ℕ → List (List ℕ) → PlainOp → ℕ
added value stack op = weight_of (rows_at value (rows_added op)) stack

pub weight_of-append : (value : ℕ) (stack : List (List ℕ)) (rows more : List Row) → weight_of
    (rows_at value (rows ++ more)) stack ≡ weight_of (rows_at value rows) stack + weight_of (rows_at value more) stack
weight_of-append value stack rows more = grind (arith, common_steps, map-append, sum_by-append)

-- what counts weighs what the operations add
pub counted : (value : ℕ) (stack : List (List ℕ)) (operations : List PlainOp)
    → weight_of (rows_at value (flat_map (λ (batch : BatchState). batch.rows) (flat_map addition_of operations))) stack
    ≡ sum_by (added value stack) operations
counted value stack [] = refl
counted value stack (add batch ∷ operations) =
    grind (arith, common_steps, sum_by-cons, weight_of-append, counted value stack operations)
counted value stack (reset ∷ operations) = let rest = counted value stack operations in let here =
    sum_by-cons (added value stack) reset operations in omega (arith, rest, here)
counted value stack (ask query ∷ operations) = let rest = counted value stack operations in let here =
    sum_by-cons (added value stack) (ask query) operations in omega (arith, rest, here)

-- ---- what logs tell of the rows that count

-- what an operation adds to a stack by a value, where it was told this place or one after it
abbrev added_from : ℕ → ℕ → List (List ℕ) → PlainOp → PlainReply → ℕ
added_from place value stack op reply = cond (nat_le place (place_told reply)) (added value stack op) 0

receipt_weighs : (place value : ℕ) (stack : List (List ℕ)) (receipt : PlainReceipt)
    → weight_of (rows_at value (rows_from place receipt)) stack ≡ added_from place value stack receipt.op receipt.reply
receipt_weighs place value stack receipt = grind (arith, common_steps)

log_weighs : (place value : ℕ) (stack : List (List ℕ)) (receipts : List PlainReceipt) → weight_of
    (rows_at value (flat_map (rows_from place) receipts)) stack ≡ weigh_log (added_from place value stack) receipts
log_weighs place value stack [] = refl
log_weighs place value stack (receipt ∷ receipts) =
    grind (arith, common_steps, sum_by-cons, weight_of-append, receipt_weighs, log_weighs place value stack receipts)

logs_weigh : (place value : ℕ) (stack : List (List ℕ)) (logs : List SessionLog)
    → weight_of (rows_at value (rows_logged place logs)) stack ≡ weigh_logs (added_from place value stack) logs
logs_weigh place value stack [] = refl
logs_weigh place value stack (log ∷ logs) =
    search (rules, sum_by-cons, weight_of-append, log_weighs, logs_weigh place value stack logs)

-- each change is told how many changes stand before it, the first so many
abbrev AreInPlace : ℕ → List PlainStep → Type 0
AreInPlace place [] = Unit {0}
AreInPlace place (step ∷ run) =
    (is_change step.op ≡ true → step.reply ≡ placed place) × AreInPlace (place + cond (is_change step.op) 1 0) run

in_place : (before : List PlainOp) (run : List PlainStep)
    → ((at : ℕ) (item : PlainStep) → at < length run → (get_or run at item).reply
    ≡ plain_answer (before ++ map (λ (step : PlainStep). step.op) (take at run)) (get_or run at item).op)
    → AreInPlace (changes_in before) run
in_place before [] legal = tt
in_place before (step ∷ run) legal =
    let parts = sum_by-append (λ op. cond (is_change op) 1 0) before (step.op ∷ []) in
    let last = sum_by-cons (λ op. cond (is_change op) 1 0) step.op [] in
    let count : changes_in (before ++ step.op ∷ []) ≡ changes_in before + cond (is_change step.op) 1 0 =
    omega (arith, parts, last) in (
      (λ change. legal 0 step (omega arith)
          ∙ ap (λ ops. plain_answer ops step.op) (append-nil before) ∙ change_answer before step.op change),
      subst (λ n. AreInPlace n run) count (in_place (before ++ step.op ∷ []) run (λ at item lt.
          legal (suc at) item (omega (arith, lt)) ∙ ap (λ ops. plain_answer ops (get_or run at item).op)
          (sym (append_assoc before (step.op ∷ []) (map (λ (step : PlainStep). step.op) (take at run)))))),
    )

-- a report adds nothing
report_adds : (from value : ℕ) (stack : List (List ℕ)) (op : PlainOp) (reply : PlainReply)
    → is_change op ≡ false → added_from from value stack op reply ≡ 0
report_adds from value stack (add batch) reply report = absurd (cc)
report_adds from value stack reset reply report = absurd (cc)
report_adds from value stack (ask query) reply report = grind (arith, common_steps)

-- the operations of a run that are changes
abbrev changes_of : List PlainStep → List PlainOp
changes_of run = filter is_change (map (λ (step : PlainStep). step.op) run)

-- changes count from a place on, so many changes after the first of the run: those and all after them
sums : (gap from place value : ℕ) (stack : List (List ℕ)) (run : List PlainStep)
    → gap ≡ from - place → AreInPlace place run
    → sum_by (λ (step : PlainStep). added_from from value stack step.op step.reply) run
    ≡ sum_by (added value stack) (drop gap (changes_of run))
sums zero from place value stack [] is legal = refl
sums (suc gap) from place value stack [] is legal = refl
sums gap from place value stack (step ∷ run) is legal =
    by_case (is_change step.op) refl gap is
    (λ gap is. sums gap from (place + cond (is_change step.op) 1 0) value stack run is legal.1)
  where
    told : PlainStep → ℕ
    told step = added_from from value stack step.op step.reply

    by_case : (b : Bool) → is_change step.op ≡ b → (gap : ℕ) → gap ≡ from - place
        → ((gap : ℕ) → gap ≡ from - (place + cond (is_change step.op) 1 0)
        → sum_by told run ≡ sum_by (added value stack) (drop gap (changes_of run)))
        → sum_by told (step ∷ run) ≡ sum_by (added value stack) (drop gap (changes_of (step ∷ run)))
    by_case true change zero is rest =
        let here = rest zero (omega (arith, is)) in
        let one : told step ≡ added value stack step.op =
        ap (λ reply. added_from from value stack step.op reply) (legal.0 change)
        ∙ ap (λ b. cond b (added value stack step.op) 0) (le-leb from place (omega (arith, is))) in
        grind (arith, common_steps, sum_by-cons)
    by_case true change (suc gap) is rest =
        let here = rest gap (omega (arith, is, ap {B = ℕ} (λ b. cond b 1 0) change)) in
        let one : told step ≡ 0 =
        ap (λ reply. added_from from value stack step.op reply) (legal.0 change)
        ∙ ap (λ b. cond b (added value stack step.op) 0) (lt-leb from place (omega (arith, is))) in
        grind (arith, common_steps, sum_by-cons)
    by_case false report gap is rest =
        let here = rest gap (omega (arith, is, ap {B = ℕ} (λ b. cond b 1 0) report)) in
        let one = report_adds from value stack step.op step.reply report in
        grind (arith, common_steps, sum_by-cons)

-- ---- which operations count

none_before : (operations : List PlainOp) → list_any is_reset operations ≡ false → counting_from operations ≡ 0
none_before [] none = refl
none_before (reset ∷ operations) none = absurd (cc)
none_before (add batch ∷ operations) none = grind (arith, common_steps)
none_before (ask query ∷ operations) none = grind (arith, common_steps)

-- an operation after which no reset stands
count_first : (later : List PlainOp) (op : PlainOp)
    → addition_of op ++ flat_map addition_of later ≡ flat_map addition_of (drop (cond (is_reset op) 1 0) (op ∷ later))
count_first later (add batch) = refl
count_first later reset = refl
count_first later (ask query) = refl

-- the batches that count are those from the place on where counting begins
pub batches_from : (operations : List PlainOp)
    → batches_after operations ≡ flat_map addition_of (drop (counting_from operations) operations)
batches_from [] = refl
batches_from (op ∷ later) = grind (arith, common_steps, none_before, count_first, batches_from later)

-- the rows that logs tell of, from the place on where counting begins, weigh for each stack what the profile does
pub logged_rows_weigh : (logs : List SessionLog) (run : List PlainStep) (operations : List PlainOp)
    → IsPermutation (steps_in logs) run
    → IsLegal (λ (step : PlainStep). step.op) (λ (step : PlainStep). step.reply) run
    → changes_of run ≡ operations → (value : ℕ) (stack : List (List ℕ))
    → weight_of (rows_at value (rows_logged (counting_from operations) logs)) stack
    ≡ weight_of (rows_at value (profile_after operations)) stack
logged_rows_weigh logs run operations once legal changes value stack =
    let from : ℕ = counting_from operations in
    logs_weigh from value stack logs
    ∙ sym (run_weighs (added_from from value stack) logs run once)
    ∙ sums from from 0 value stack run (omega arith) (in_place [] run legal)
    ∙ ap (λ ops. sum_by (added value stack) (drop from ops)) changes
    ∙ sym (counted value stack (drop from operations))
    ∙ ap (λ batches. weight_of (rows_at value (flat_map (λ (batch : BatchState). batch.rows) batches)) stack)
    (sym (batches_from operations))
