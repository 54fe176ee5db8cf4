-- What is found in the order of a run decides.
use Rattle.std.proofs.Common.{ℕ, ◌≡◌, ◌<◌, All, AllPairs, List, Option, filter, get_or, length, map, ap, sym, subst}
use Rattle.std.proofs.Common.{◌∙◌, arith}
use Rattle.std.specs.Prelude.{IsPermutation}
use Rattle.std.proofs.lemmas.List.{get_or-map, length-map}
use Rattle.std.proofs.lemmas.List.Sorted.{All-permutation, IsPermutation-map}
use Rattle.std.proofs.lemmas.Simd.{map-map}
use Rattle.op_book.specs.Books.{JournalState}
use Rattle.op_book.specs.Operations.{is_change}
use Rattle.op_book.specs.declared.entry.SessionLog.{SessionLog}
use Rattle.log_audit.specs.Matching.{AreOrdered, IsKnown, IsReceived, IsRight, IsRunOf, LoggedReceipt}
use Rattle.log_audit.specs.Matching.{LogsMatch, PlainStep, logged, step_of, steps_in}
use Rattle.log_audit.specs.Replays.{IsLowestOf}
use Rattle.log_audit.specs.declared.replay.Wrong.{Wrong}
use Rattle.log_audit.proofs.Deciding.{known_widths, missing_from, received_from, right_in_logs, within_journal}
use Rattle.log_audit.proofs.Deciding.{wrong_in_logs}
use Rattle.log_audit.proofs.Following.{light_from_journal, nobody, run_changes, run_is_legal}
use Rattle.log_audit.proofs.Ordered.{own_order, rising}
use Rattle.log_audit.proofs.auditing.run_in_order.Goals as goal

-- each receipt is of the journal, in this order too
known_here : (journal : JournalState) (logs : List SessionLog) (ordered : List LoggedReceipt)
    → AreOrdered journal logs ordered → All (IsKnown journal) ordered
known_here journal logs ordered are = All-permutation (IsKnown journal) (logged logs) ordered are.all are.known

pub first_missing-requires-clause-rising : goal.first_missing-requires-clause-rising
first_missing-requires-clause-rising c =
    let (logs, are) = c.requires in
    rising c.args.journal.now logs c.args.ordered.now are.one_log_each are.known are.in_order are.all are.sorted

pub first_missing-requires-clause-within : goal.first_missing-requires-clause-within
first_missing-requires-clause-within c =
    rw c.entries-entries.ensures.entries (within_journal c.args.journal.now c.args.ordered.now
    (known_here _ _ _ c.requires.1))

pub returns-in-Some : goal.returns-in-Some
returns-in-Some c = λ logs are. (
  are.one_log_each,
  are.known,
  are.in_order,
  missing_from (length c.args.journal.now.entries) (logged logs) c.args.ordered.now c.in-Some.entry are.all
      (rw (← c.entries-entries.ensures.entries) c.in-Some.ensures),
)

pub first_wrong-requires-clause-fitted : goal.first_wrong-requires-clause-fitted
first_wrong-requires-clause-fitted c =
    rw c.width.ensures.width (known_widths c.args.journal.now c.args.ordered.now c.entries-entries.ensures.kept.fitted
    (known_here _ _ _ c.requires.1))

pub first_wrong-requires-clause-light : goal.first_wrong-requires-clause-light
first_wrong-requires-clause-light c =
    light_from_journal c.args.journal.now c.args.ordered.now c.in_default.ensures.0 (known_here _ _ _ c.requires.1)
    c.entries-entries.ensures.kept.light

pub returns-in-Some-2 : goal.returns-in-Some-2
returns-in-Some-2 c = λ logs are. (
  are.one_log_each,
  are.known,
  are.in_order,
  λ place lt. received_from (logged logs) c.args.ordered.now place are.all
      (c.in_default.ensures.1 place (rw c.entries-entries.ensures.entries lt)),
  wrong_in_logs c.args.journal.now logs c.args.ordered.now c.in-Some-2.wrong are.known are.all c.in_default.ensures.0
      (subst (λ (o : Option Wrong). IsLowestOf c.args.ordered.now (length c.args.ordered.now) o) c.in-Some-2.is
      c.in_ok-wrong.ensures),
)

once : (logs : List SessionLog) (run : List PlainStep) → IsRunOf logs run → IsPermutation (steps_in logs) run
once logs run is = subst (λ (steps : List PlainStep). IsPermutation (steps_in logs) steps)
    (sym is.steps_are) (IsPermutation-map step_of (logged logs) is.ordered is.all)

kept : (ordered : List LoggedReceipt)
    → AllPairs (λ (a : LoggedReceipt) (b : LoggedReceipt). a.session ≡ b.session → a.index < b.index) ordered
    → AllPairs (λ (earlier : PlainStep) (later : PlainStep). earlier.session ≡ later.session
    → earlier.index < later.index) (map step_of ordered)
kept ordered own i j d lt j_lt =
    let size = length-map ordered step_of in
    let first : get_or (map step_of ordered) i d ≡ step_of (get_or ordered i nobody) =
    get_or-map step_of ordered i nobody d (omega (arith, size, lt, j_lt)) in
    let second : get_or (map step_of ordered) j d ≡ step_of (get_or ordered j nobody) =
    get_or-map step_of ordered j nobody d (omega (arith, size, j_lt)) in
    rw (first, second) (own i j nobody lt (omega (arith, size, j_lt)))

kept_order : (journal : JournalState) (logs : List SessionLog) (run : List PlainStep)
    → LogsMatch journal logs → IsRunOf logs run
    → AllPairs
    (λ (earlier : PlainStep) (later : PlainStep). earlier.session ≡ later.session → earlier.index < later.index) run
kept_order journal logs run is runs =
    subst (λ (steps : List PlainStep). AllPairs (λ (earlier : PlainStep) (later : PlainStep). earlier.session
    ≡ later.session → earlier.index < later.index) steps) (sym runs.steps_are)
    (kept runs.ordered (own_order logs runs.ordered is.one_log_each is.in_order runs.all runs.sorted))

pub returns : goal.returns
returns c = λ logs are.
    let journal = c.args.journal.now in
    let ordered = c.args.ordered.now in
    let received : (place : ℕ) → place < length journal.entries → IsReceived ordered place =
    λ place lt. c.in_default.ensures.1 place (rw c.entries-entries.ensures.entries lt) in
    let right : All (IsRight journal) (logged logs) = right_in_logs journal logs ordered are.known are.all
    c.in_default.ensures.0 (subst (λ (o : Option Wrong). IsLowestOf ordered (length ordered) o) c.in_default-2.is
    c.in_ok-wrong.ensures) in
    let matched : LogsMatch journal logs = record {
      one_log_each = are.one_log_each;
      known = are.known;
      in_order = are.in_order;
      received = λ place lt. received_from (logged logs) ordered place are.all (received place lt);
      right = right;
    } in
    let runs : IsRunOf logs c.in_ok-of.field-0 =
    record { ordered = ordered; all = are.all; sorted = are.sorted; steps_are = c.in_ok-of.ensures } in
    record {
      matched = matched;
      run_is = runs;
      legal = rw c.in_ok-of.ensures (run_is_legal journal ordered c.entries-entries.ensures.kept.replay.legal
          c.entries-entries.ensures.kept.changes c.in_default.ensures.0 (known_here _ _ _ are)
          (All-permutation (IsRight journal) (logged logs) ordered are.all right));
      changes = ap (λ steps. filter is_change (map (λ (step : PlainStep). step.op) steps)) c.in_ok-of.ensures
          ∙ ap (filter is_change) (map-map (λ (step : PlainStep). step.op) step_of ordered)
          ∙ run_changes journal ordered c.in_default.ensures.0 (known_here _ _ _ are) received;
      each_receipt_once = once logs _ runs;
      own_order = kept_order journal logs _ matched runs;
    }
