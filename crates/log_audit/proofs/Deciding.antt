-- What was found in the order of a run, said of the logs; and that a match leaves no fault.
use Rattle.std.proofs.lemmas.Grind.{common_steps}
use Rattle.std.proofs.Common.{rules, ℕ, zero, suc, true, ◌≡◌, ◌<◌, ◌≤◌, ◌+◌, ◌-◌, Option, Some, None, List}
use Rattle.std.proofs.Common.{[], ◌∷◌}
use Rattle.std.proofs.Common.{◌++◌, length, get_or, take, drop, All, Any, refl, sym, ap, subst, ◌∙◌, arith}
use Rattle.std.specs.Prelude.{IsPermutation}
use Rattle.std.proofs.Math.ListN.{get_or-append}
use Rattle.std.proofs.lemmas.Bool.{cases_lt}
use Rattle.std.proofs.lemmas.List.{get_or-append_right, get_or-take, get_or_at, get_or_default, length-append}
use Rattle.std.proofs.lemmas.List.{length-take-le}
use Rattle.std.proofs.lemmas.List.Sorted.{All-permutation, Contains-permutation, IsPermutation-sym}
use Rattle.op_book.specs.Books.{JournalState}
use Rattle.op_book.specs.declared.entry.SessionLog.{SessionLog}
use Rattle.log_audit.specs.declared.fault.AuditFault.{AuditFault}
use Rattle.log_audit.specs.declared.fault.AuditFault.TheVariants.{TwoLogs, Stranger, Order, Missing, WrongAnswer}
use Rattle.log_audit.specs.declared.fault.AuditFault.TheVariants.{NoMemory}
use Rattle.log_audit.specs.declared.replay.Wrong.{Wrong}
use Rattle.log_audit.specs.Matching.{HasOneLogEach, IsFirstAuditFault, IsFirstMissing, IsFirstWithout, IsInOrder}
use Rattle.log_audit.specs.Matching.{IsKnown}
use Rattle.log_audit.specs.Matching.{IsReceived, IsRight, IsSecondLog, LoggedReceipt, LogsMatch, logged, logged_after}
use Rattle.log_audit.specs.Matching.{logged_from}
use Rattle.op_book.specs.Operations.{FitsWidth, PlainReceipt, is_change}
use Rattle.log_audit.specs.Replays.{AreNumbered, IsLowestOf, IsPlain}
use Rattle.op_book.specs.Runs.{AreOfWidth}
use Rattle.log_audit.proofs.Following.{known_place, known_width, plain_from_right, right_from_plain}
use Rattle.log_audit.proofs.Logging.{length-logged_from}
use Rattle.log_audit.proofs.Passing.{split_at}

any_permutation : {X : Type 0} (P : X → Type 0) (xs ys : List X) → IsPermutation xs ys → Any P xs → Any P ys
any_permutation P xs ys perm (k, x, inside, there, has) =
    let (n, lt, item) = Contains-permutation xs ys x perm (k, inside, there) in
    (n, x, lt, item, has)

-- ---- what was found, said of the logs

pub known_widths : (journal : JournalState) (all : List LoggedReceipt) → AreOfWidth journal.width journal.entries
    → All (IsKnown journal) all → All (λ (one : LoggedReceipt). FitsWidth journal.width one.receipt.op) all
known_widths journal all fitted known k d lt = known_width journal (get_or all k d) fitted (known k d lt)

pub within_journal : (journal : JournalState) (all : List LoggedReceipt)
    → All (IsKnown journal) all → All (λ (one : LoggedReceipt). one.receipt.at ≤ length journal.entries) all
within_journal journal all known k d lt = known_place journal (get_or all k d) (known k d lt)

pub received_from : (all ordered : List LoggedReceipt) (place : ℕ)
    → IsPermutation all ordered → IsReceived ordered place → IsReceived all place
received_from all ordered place perm = any_permutation (λ (one : LoggedReceipt). (is_change one.receipt.op ≡ true)
    × (one.receipt.at ≡ place)) ordered all (IsPermutation-sym all ordered perm)

pub missing_from : (count : ℕ) (all ordered : List LoggedReceipt) (place : ℕ)
    → IsPermutation all ordered → IsFirstMissing count ordered place → IsFirstMissing count all place
missing_from count all ordered place perm missing = record {
  within = missing.within;
  earlier = λ other lt. received_from all ordered other perm (missing.earlier other lt);
  missing = λ found. missing.missing (any_permutation
      (λ (one : LoggedReceipt). (is_change one.receipt.op ≡ true) × (one.receipt.at ≡ place)) all ordered perm found);
}

-- each receipt's number is its place
numbered_from : (number session index : ℕ) (earlier : Option PlainReceipt) (receipts : List PlainReceipt)
    (k : ℕ) (d : LoggedReceipt) → k < length (logged_from number session index earlier receipts)
    → (get_or (logged_from number session index earlier receipts) k d).number ≡ number + k
numbered_from number session index earlier [] k d lt = absurd (omega (arith, lt))
numbered_from number session index earlier (receipt ∷ later) zero d lt = omega arith
numbered_from number session index earlier (receipt ∷ later) (suc k) d lt =
    search (rules, numbered_from (number + 1) session (index + 1) (Some receipt) later k d (omega (arith, lt)))

numbered_after : (number : ℕ) (logs : List SessionLog) (k : ℕ) (d : LoggedReceipt)
    → k < length (logged_after number logs) → (get_or (logged_after number logs) k d).number ≡ number + k
numbered_after number [] k d lt = absurd (omega (arith, lt))
numbered_after number (log ∷ logs) k d lt =
    let here = logged_from number log.session 0 None log.receipts in
    let rest = logged_after (number + length log.receipts) logs in
    let size : length here ≡ length log.receipts = length-logged_from number log.session 0 None log.receipts in
    grind (
      arith,
      common_steps,
      cases_lt,
      get_or-append,
      get_or-append_right,
      length-append,
      numbered_from,
      numbered_after (number + length log.receipts) logs (k - length here) d,
    )

pub right_in_logs : (journal : JournalState) (logs : List SessionLog) (ordered : List LoggedReceipt)
    → All (IsKnown journal) (logged logs) → IsPermutation (logged logs) ordered → AreNumbered ordered
    → IsLowestOf ordered (length ordered) None → All (IsRight journal) (logged logs)
right_in_logs journal logs ordered known perm numbered plain =
    let all = All-permutation (IsKnown journal) (logged logs) ordered perm known in
    All-permutation (IsRight journal) ordered (logged logs) (IsPermutation-sym (logged logs) ordered perm)
    (λ k d lt. right_from_plain journal ordered numbered all k
    (get_or ordered k d) lt (get_or_default ordered k d (get_or ordered k d) lt) (plain k d lt))

pub wrong_in_logs : (journal : JournalState) (logs : List SessionLog) (ordered : List LoggedReceipt) (wrong : Wrong)
    → All (IsKnown journal) (logged logs) → IsPermutation (logged logs) ordered → AreNumbered ordered
    → IsLowestOf ordered (length ordered) (Some wrong)
    → IsFirstWithout (IsRight journal) (logged logs) wrong.session wrong.index
wrong_in_logs journal logs ordered wrong known perm numbered lowest =
    let all = logged logs in
    let known_there = All-permutation (IsKnown journal) all ordered perm known in
    let (p, p_lt, item) = Contains-permutation ordered all lowest.one
    (IsPermutation-sym all ordered perm) (lowest.at, lowest.within, sym lowest.one_is) in
    let number : lowest.one.number ≡ p = ap (λ (one : LoggedReceipt). one.number) (sym item)
    ∙ numbered_after 0 logs p lowest.one p_lt ∙ plus p in
    let size = length-take-le p all (omega (arith, p_lt)) in
    record {
      before = take p all;
      one = lowest.one;
      after = drop (p + 1) all;
      split = split_at all p lowest.one p_lt ∙ ap (λ (x : LoggedReceipt). take p all ++ x ∷ drop (p + 1) all) item;
      each = λ k d lt.
          let k_lt : k < p = omega (arith, size, lt) in
          let there = get_or-take p all k d k_lt in
          let one = get_or all k d in
          let own : one.number ≡ k = numbered_after 0 logs k d (omega (arith, k_lt, p_lt)) ∙ plus k in
          let (j, j_lt, found) = Contains-permutation all ordered one perm
          (k, omega (arith, k_lt, p_lt), sym (get_or_default all k d one (omega (arith, k_lt, p_lt)))) in
          let found_number = ap (λ (x : LoggedReceipt). x.number) found in
          let plain = lowest.lower j one j_lt (omega (arith, found_number, own, k_lt, number, lowest.number)) in
          subst (IsRight journal) (sym there)
          (right_from_plain journal ordered numbered known_there j one j_lt
          (sym found) (subst (λ (x : LoggedReceipt). IsPlain (take j ordered) x) found plain));
      without = λ right. lowest.not_plain (plain_from_right
          journal ordered numbered known_there lowest.at lowest.one lowest.within lowest.one_is right);
      session_is = lowest.session;
      index_is = lowest.index;
    }
  where
    plus : (n : ℕ) → 0 + n ≡ n
    plus n = omega arith

-- ---- a match leaves no fault

middle_of : {X : Type 0} (P : X → Type 0) (xs : List X) (x : X) (ys : List X) → All P (xs ++ x ∷ ys) → P x
middle_of P xs x ys all =
    subst P (get_or_at xs x ys x (length xs) refl) (all (length xs) x (omega (arith, length-append xs (x ∷ ys))))

without-all : (Has : LoggedReceipt → Type 0) (all : List LoggedReceipt) (session index : ℕ)
    → IsFirstWithout Has all session index → All Has all → ⊥
without-all Has all session index first each = first.without
    (middle_of Has first.before first.one first.after (subst (λ (l : List LoggedReceipt). All Has l) first.split each))

two_logs-one_each : (logs : List SessionLog) (session : ℕ) → IsSecondLog logs session → HasOneLogEach logs → ⊥
two_logs-one_each logs session second one_each =
    let (k, earlier, inside, there, same) = second.again in
    let each : HasOneLogEach (second.before ++ second.log ∷ second.after) = subst HasOneLogEach second.split one_each in
    grind (arith, common_steps, length-append, get_or-append, get_or_at, each k (length second.before) earlier)

pub no_fault : (journal : JournalState) (logs : List SessionLog)
    → LogsMatch journal logs → (fault : AuditFault) → IsFirstAuditFault journal logs fault → fault ≡ NoMemory
no_fault journal logs logs_match (TwoLogs session) first =
    absurd (two_logs-one_each logs session first logs_match.one_log_each)
no_fault journal logs logs_match (Stranger session index) first =
    absurd (without-all (IsKnown journal) (logged logs) session index first.1 logs_match.known)
no_fault journal logs logs_match (Order session index) first =
    absurd (without-all IsInOrder (logged logs) session index first.2 logs_match.in_order)
no_fault journal logs logs_match (Missing entry) first =
    absurd (first.3.missing (logs_match.received entry first.3.within))
no_fault journal logs logs_match (WrongAnswer session index) first =
    absurd (without-all (IsRight journal) (logged logs) session index first.4 logs_match.right)
no_fault journal logs logs_match NoMemory first = refl
