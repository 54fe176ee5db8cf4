-- Receipts in the order of a run follow the journal: the changes before each are the journal's first ones.
use Rattle.std.proofs.lemmas.Grind.{common_steps}
use Rattle.std.proofs.Common.{ℕ, zero, suc, ◌≡◌, ◌<◌, ◌≤◌, ◌+◌, ◌^◌, inl, inr, Bool, true, false, cond, filter}
use Rattle.std.proofs.Common.{None, List, [], ◌∷◌, ◌++◌, length, get_or, take, map, All, refl, sym, ap, subst, ◌∙◌}
use Rattle.std.proofs.Common.{arith}
use Rattle.std.specs.List.{flat_map, list_any}
use Rattle.std.proofs.lemmas.Bool.{cases_lt}
use Rattle.std.proofs.lemmas.List.Elements.{filter-append}
use Rattle.std.proofs.lemmas.List.{append-nil, get_or-map, get_or-take, get_or_default, length-map, length-take-le}
use Rattle.std.proofs.lemmas.List.{take-map}
use Rattle.std.proofs.lemmas.List.{take_all, take_more}
use Rattle.std.proofs.lemmas.Option.{slice_get_cases}
use Rattle.std.proofs.lemmas.Simd.{map-map}
use Rattle.profile_rows.specs.Rows.{total_of}
use Rattle.profile_rows.specs.Values.{BatchState, rows_at}
use Rattle.op_book.specs.Books.{JournalState}
use Rattle.op_book.specs.Receipts.{HasEntry}
use Rattle.log_audit.specs.Matching.{IsKnown, IsOfJournal, IsReceived, IsRight, LoggedReceipt, PlainStep}
use Rattle.log_audit.specs.Matching.{step_of}
use Rattle.op_book.specs.Operations.{FitsWidth, PlainEntry, PlainOp, PlainReceipt, add, reset, ask}
use Rattle.op_book.specs.Operations.{batches_after, changes_in, is_change, is_reset, operations_of, placed}
use Rattle.op_book.specs.Operations.{plain_answer, profile_after}
use Rattle.log_audit.specs.Replays.{AreLight, AreNumbered, IsPlain, ops_in}
use Rattle.op_book.specs.Runs.{AreChanges, AreOfWidth, IsLegal, IsLegalRun, KeepLimit}
use Rattle.op_book.proofs.EntryLaws.{changes_in-entries, operations_of-push}
use Rattle.log_audit.proofs.Numbering.{IsCounted, IsCounted-empty, IsCounted-push, changes-push, one_if}
use Rattle.log_audit.proofs.Replaying.{ops_in-more, take-ops_in}

-- ---- what a known receipt is of

pub record Entered (entries : List PlainEntry) (session : ℕ) (receipt : PlainReceipt) : Type 0 where
  pub entry : PlainEntry
  pub within : receipt.at < length entries
  pub item : get_or entries receipt.at entry ≡ entry
  pub session_is : entry.session ≡ session
  pub op_is : entry.op ≡ receipt.op
  pub reply_is : entry.reply ≡ receipt.reply

pub entered : (entries : List PlainEntry) (session : ℕ) (receipt : PlainReceipt)
    → HasEntry entries session receipt → Entered entries session receipt
entered entries session receipt has = grind (arith, common_steps, slice_get_cases)

of_change : (journal : JournalState) (session : ℕ) (receipt : PlainReceipt) (op : PlainOp)
    → IsOfJournal journal session receipt op → is_change op ≡ true → HasEntry journal.entries session receipt
of_change journal session receipt (add batch) is change = is
of_change journal session receipt reset is change = is
of_change journal session receipt (ask query) is change = absurd (cc)

pub known_change : (journal : JournalState) (one : LoggedReceipt)
    → IsKnown journal one → is_change one.receipt.op ≡ true → Entered journal.entries one.session one.receipt
known_change journal one known change = grind (arith, common_steps, entered, of_change)

of_place : (journal : JournalState) (session : ℕ) (receipt : PlainReceipt) (op : PlainOp)
    → IsOfJournal journal session receipt op → receipt.at ≤ length journal.entries
of_place journal session receipt (add batch) is =
    let at = (entered journal.entries session receipt is).within in omega (arith, at)
of_place journal session receipt reset is =
    let at = (entered journal.entries session receipt is).within in omega (arith, at)
of_place journal session receipt (ask query) is = is.0

pub known_place : (journal : JournalState) (one : LoggedReceipt)
    → IsKnown journal one → one.receipt.at ≤ length journal.entries
known_place journal one known = of_place journal one.session one.receipt one.receipt.op known.1

of_width : (journal : JournalState) (session : ℕ) (receipt : PlainReceipt) (op : PlainOp) → AreOfWidth journal.width
    journal.entries → receipt.op ≡ op → IsOfJournal journal session receipt op → FitsWidth journal.width op
of_width journal session receipt (add batch) fitted same is =
    let at = entered journal.entries session receipt is in
    subst (FitsWidth journal.width)
    (ap (λ (e : PlainEntry). e.op) at.item ∙ at.op_is ∙ same) (fitted receipt.at at.entry at.within)
of_width journal session receipt reset fitted same is = tt
of_width journal session receipt (ask query) fitted same is = is.1

pub known_width : (journal : JournalState) (one : LoggedReceipt)
    → AreOfWidth journal.width journal.entries → IsKnown journal one → FitsWidth journal.width one.receipt.op
known_width journal one fitted known = of_width journal one.session one.receipt one.receipt.op fitted refl known.1

-- ---- what counts

resets_stay : (operations : List PlainOp)
    → list_any is_reset (filter is_change operations) ≡ list_any is_reset operations
resets_stay [] = refl
resets_stay (add batch ∷ later) = resets_stay later
resets_stay (reset ∷ later) = refl
resets_stay (ask query ∷ later) = resets_stay later

-- the changes alone decide what counts
changes_count : (operations : List PlainOp) → batches_after (filter is_change operations) ≡ batches_after operations
changes_count [] = refl
changes_count (add batch ∷ later) = λ i. cond (resets_stay later i) (changes_count later i)
    (batch ∷ changes_count later i)
changes_count (reset ∷ later) = λ i. cond (resets_stay later i) (changes_count later i) (changes_count later i)
changes_count (ask query ∷ later) = changes_count later ∙ either (list_any is_reset later)
  where
    either : (b : Bool) → batches_after later ≡ cond b (batches_after later) (batches_after later)
    either true = refl
    either false = refl

-- a receipt of no log
pub nobody : LoggedReceipt
nobody = record {
  number =
      0;
  session = 0;
  index = 0;
  earlier = None;
  receipt = record { op = reset; reply = placed 0; at = 0 };
}

-- how many changes stand before
abbrev pub changes_before : List LoggedReceipt → ℕ → ℕ
changes_before all i = changes_in (ops_in (take i all))

more_changes : (all : List LoggedReceipt) (i : ℕ) (one : LoggedReceipt) → i < length all
    → one ≡ get_or all i one → changes_before all (i + 1) ≡ changes_before all i + one_if (is_change one.receipt.op)
more_changes all i one lt is = grind (arith, common_steps, take_more, changes-push)

-- the journal's first operations, with that of one change more
operations-more : (journal : JournalState) (all : List LoggedReceipt) (i : ℕ) (one : LoggedReceipt)
    → is_change one.receipt.op ≡ true → i < length all → one ≡ get_or all i one
    → one.receipt.at ≡ changes_before all i → IsKnown journal one
    → operations_of (take (changes_before all (i + 1)) journal.entries)
    ≡ operations_of (take (changes_before all i) journal.entries) ++ one.receipt.op ∷ []
operations-more journal all i one change lt is at known =
    let entry = known_change journal one known change in
    let n = changes_before all i in
    let n_lt : n < length journal.entries = subst (λ k. k < length journal.entries) at entry.within in
    let next : changes_before all (i + 1) ≡ n + 1 = more_changes all i one lt is ∙ ap (λ b. n + one_if b) change in
    let item : get_or journal.entries n entry.entry ≡ entry.entry =
    ap (λ k. get_or journal.entries k entry.entry) (sym at) ∙ entry.item in
    ap (λ k. operations_of (take k journal.entries)) next
    ∙ ap operations_of
    (take_more journal.entries n entry.entry n_lt ∙ ap (λ (e : PlainEntry). take n journal.entries ++ e ∷ []) item)
    ∙ operations_of-push (take n journal.entries) entry.entry
    ∙ ap (λ (o : PlainOp). operations_of (take n journal.entries) ++ o ∷ []) entry.op_is

-- a report more leaves them
operations-same : (journal : JournalState) (all : List LoggedReceipt) (i : ℕ) (one : LoggedReceipt)
    → is_change one.receipt.op ≡ false → i < length all → one ≡ get_or all i one
    → operations_of (take (changes_before all (i + 1)) journal.entries)
    ≡ operations_of (take (changes_before all i) journal.entries)
operations-same journal all i one report lt is = grind (arith, common_steps, one_if, more_changes)

-- ---- the changes of a run are the journal's entries

more_of : (operations : List PlainOp) (op : PlainOp) (b : Bool)
    → is_change op ≡ b → filter is_change (operations ++ op ∷ []) ≡ filter is_change operations ++ cond b (op ∷ []) []
more_of operations op b is = filter-append is_change operations (op ∷ [])
    ∙ ap (λ c. filter is_change operations ++ cond c (op ∷ []) []) is

changes_more : (journal : JournalState) (all : List LoggedReceipt) (i : ℕ) (one : LoggedReceipt) (b : Bool)
    → is_change one.receipt.op ≡ b → i < length all → one ≡ get_or all i one
    → one.receipt.at ≡ changes_before all i → IsKnown journal one
    → filter is_change (ops_in (take i all)) ≡ operations_of (take (changes_before all i) journal.entries)
    → filter is_change (ops_in (take (i + 1) all)) ≡ operations_of (take (changes_before all (i + 1)) journal.entries)
changes_more journal all i one true change lt is at known so_far =
    grind (arith, common_steps, ops_in-more, operations-more, more_of)
changes_more journal all i one false report lt is at known so_far =
    grind (arith, common_steps, append-nil, ops_in-more, operations-same, more_of)

changes_follow : (journal : JournalState) (all : List LoggedReceipt)
    → AreNumbered all → All (IsKnown journal) all → (i : ℕ) → i ≤ length all
    → filter is_change (ops_in (take i all)) ≡ operations_of (take (changes_before all i) journal.entries)
changes_follow journal all numbered known zero le = refl
changes_follow journal all numbered known (suc i) le =
    let lt : i < length all = omega (arith, le) in
    let one = get_or all i nobody in
    let is : one ≡ get_or all i one = get_or_default all i nobody one lt in
    let so_far = changes_follow journal all numbered known i (omega (arith, le)) in
    let next = changes_more journal all i one
    (is_change one.receipt.op) refl lt is (numbered i nobody lt) (known i nobody lt) so_far in
    let same : suc i ≡ i + 1 = omega arith in
    subst (λ k. filter is_change (ops_in (take k all)) ≡ operations_of (take (changes_before all k) journal.entries))
    (sym same) next

-- what counts before a receipt is what counts after as many changes of the journal
pub follows : (journal : JournalState) (all : List LoggedReceipt)
    → AreNumbered all → All (IsKnown journal) all → (i : ℕ) → i ≤ length all
    → batches_after (ops_in (take i all)) ≡ batches_after (operations_of (take (changes_before all i) journal.entries))
follows journal all numbered known i le = sym (changes_count (ops_in (take i all)))
    ∙ ap batches_after (changes_follow journal all numbered known i le)

counted_so_far : (all : List LoggedReceipt)
    → AreNumbered all → (i : ℕ) → i ≤ length all → IsCounted (take i all) (changes_before all i)
counted_so_far all numbered zero le = IsCounted-empty
counted_so_far all numbered (suc i) le =
    let lt : i < length all = omega (arith, le) in
    let one = get_or all i nobody in
    let is : one ≡ get_or all i one = get_or_default all i nobody one lt in
    let next = IsCounted-push (take i all)
    (changes_before all i) one (counted_so_far all numbered i (omega (arith, le))) (numbered i nobody lt) in
    let front : take (i + 1) all ≡ take i all ++ one ∷ [] = take_more all i one lt
    ∙ ap (λ (x : LoggedReceipt). take i all ++ x ∷ []) (sym is) in
    let same : suc i ≡ i + 1 = omega arith in
    subst (λ k. IsCounted (take k all) (changes_before all k)) (sym same)
    (rw (front, changes-push (take i all) one) next)

-- where each entry is received, there are as many changes
enough_changes : (journal : JournalState) (all : List LoggedReceipt)
    → AreNumbered all → ((place : ℕ) → place < length journal.entries → IsReceived all place)
    → length journal.entries ≤ changes_before all (length all)
enough_changes journal all numbered received = grind (arith, common_steps, cases_lt, take_all, counted_so_far)

-- the changes among all receipts, in the order of a run, are what the journal has
pub run_changes : (journal : JournalState) (all : List LoggedReceipt) → AreNumbered all
    → All (IsKnown journal) all → ((place : ℕ) → place < length journal.entries → IsReceived all place)
    → filter is_change (ops_in all) ≡ operations_of journal.entries
run_changes journal all numbered known received =
    ap (λ (l : List LoggedReceipt). filter is_change (ops_in l)) (sym (take_all (length all) all (omega arith)))
    ∙ changes_follow journal all numbered known (length all) (omega arith)
    ∙ ap operations_of
    (take_all (changes_before all (length all)) journal.entries (enough_changes journal all numbered received))

answer_same : (operations others : List PlainOp) (op : PlainOp) → is_change op ≡ false
    → batches_after operations ≡ batches_after others → plain_answer operations op ≡ plain_answer others op
answer_same operations others (add batch) report same = absurd (cc)
answer_same operations others reset report same = absurd (cc)
answer_same operations others (ask query) report same = grind (arith, common_steps)

pub change_answer : (operations : List PlainOp) (op : PlainOp)
    → is_change op ≡ true → plain_answer operations op ≡ placed (changes_in operations)
change_answer operations (add batch) change = refl
change_answer operations reset change = refl
change_answer operations (ask query) change = absurd (cc)

same_answer : (journal : JournalState) (all : List LoggedReceipt) → AreNumbered all
    → All (IsKnown journal) all → (i : ℕ) (one : LoggedReceipt) → i < length all → one ≡ get_or all i one
    → is_change one.receipt.op ≡ false → plain_answer (ops_in (take i all)) one.receipt.op
    ≡ plain_answer (operations_of (take one.receipt.at journal.entries)) one.receipt.op
same_answer journal all numbered known i one lt is report =
    let at : one.receipt.at ≡ changes_before all i = ap (λ (x : LoggedReceipt). x.receipt.at) is ∙ numbered i one lt in
    answer_same (ops_in (take i all)) (operations_of (take one.receipt.at journal.entries)) one.receipt.op report
    (follows journal all numbered known i (omega (arith, lt))
    ∙ ap (λ k. batches_after (operations_of (take k journal.entries))) (sym at))

pub right_from_plain : (journal : JournalState) (all : List LoggedReceipt) → AreNumbered all
    → All (IsKnown journal) all → (i : ℕ) (one : LoggedReceipt) → i < length all → one ≡ get_or all i one
    → IsPlain (take i all) one → IsRight journal one
right_from_plain journal all numbered known i one lt is plain report = plain report
    ∙ same_answer journal all numbered known i one lt is report

pub plain_from_right : (journal : JournalState) (all : List LoggedReceipt) → AreNumbered all
    → All (IsKnown journal) all → (i : ℕ) (one : LoggedReceipt) → i < length all → one ≡ get_or all i one
    → IsRight journal one → IsPlain (take i all) one
plain_from_right journal all numbered known i one lt is right report = right report
    ∙ sym (same_answer journal all numbered known i one lt is report)

pub light_from_journal : (journal : JournalState) (all : List LoggedReceipt)
    → AreNumbered all → All (IsKnown journal) all → KeepLimit journal.entries → AreLight (ops_in all)
light_from_journal journal all numbered known keep count value =
    elim (cases_lt (length all) count) [
      | inl beyond ↦
          let size : length (ops_in all) ≡ length all = length-map all (λ (one : LoggedReceipt). one.receipt.op) in
          let whole : take count (ops_in all) ≡ take (length all) (ops_in all) = take_all count (ops_in all)
          (omega (arith, size, beyond)) ∙ sym (take_all (length all) (ops_in all) (omega (arith, size))) in
          subst (λ (ops : List PlainOp). total_of (rows_at value (profile_after ops)) < 2 ^ 63)
          (sym whole) (within (length all) (omega arith))
      | inr inside ↦ within count inside
    ]
  where
    within : (n : ℕ) → n ≤ length all → total_of (rows_at value (profile_after (take n (ops_in all)))) < 2 ^ 63
    within n le =
        let same = ap batches_after (take-ops_in all n) ∙ follows journal all numbered known n le in
        subst (λ (batches : List BatchState). total_of (rows_at value (flat_map
        (λ (batch : BatchState). batch.rows) batches)) < 2 ^ 63) (sym same) (keep (changes_before all n) value)

-- ---- the run is legal

told_change : (journal : JournalState) (all : List LoggedReceipt)
    → IsLegalRun journal.entries → AreChanges journal.entries → AreNumbered all → All (IsKnown journal) all
    → (i : ℕ) (one : LoggedReceipt) → i < length all → one ≡ get_or all i one
    → is_change one.receipt.op ≡ true → one.receipt.reply ≡ plain_answer (ops_in (take i all)) one.receipt.op
told_change journal all legal changes numbered known i one lt is change =
    let entry = known_change journal one (subst (IsKnown journal) (sym is) (known i one lt)) change in
    let at : one.receipt.at ≡ changes_before all i = ap (λ (x : LoggedReceipt). x.receipt.at) is ∙ numbered i one lt in
    let first = take one.receipt.at journal.entries in
    let size : length first ≡ one.receipt.at =
    length-take-le one.receipt.at journal.entries (omega (arith, entry.within)) in
    let count : changes_in (operations_of first) ≡ one.receipt.at = changes_in-entries first
    (λ k d k_lt. subst (λ (e : PlainEntry). is_change e.op ≡ true) (sym (get_or-take one.receipt.at journal.entries k d
    (omega (arith, size, k_lt)))) (changes k d (omega (arith, size, k_lt, entry.within)))) ∙ size in
    let told = legal one.receipt.at entry.entry entry.within in
    sym entry.reply_is
    ∙ subst (λ (e : PlainEntry). e.reply ≡ plain_answer (operations_of first) e.op) entry.item told
    ∙ ap (plain_answer (operations_of first)) entry.op_is
    ∙ change_answer (operations_of first) one.receipt.op change
    ∙ ap placed (count ∙ at)
    ∙ sym (change_answer (ops_in (take i all)) one.receipt.op change)

told : (journal : JournalState) (all : List LoggedReceipt) → IsLegalRun journal.entries
    → AreChanges journal.entries → AreNumbered all → All (IsKnown journal) all → All (IsRight journal) all
    → (i : ℕ) (one : LoggedReceipt) → i < length all → one ≡ get_or all i one → (b : Bool)
    → is_change one.receipt.op ≡ b → one.receipt.reply ≡ plain_answer (ops_in (take i all)) one.receipt.op
told journal all legal changes numbered known right i one lt is true change =
    told_change journal all legal changes numbered known i one lt is change
told journal all legal changes numbered known right i one lt is false report =
    plain_from_right journal all numbered known i one lt is (subst (IsRight journal) (sym is) (right i one lt)) report

pub run_is_legal : (journal : JournalState) (all : List LoggedReceipt) → IsLegalRun journal.entries
    → AreChanges journal.entries → AreNumbered all → All (IsKnown journal) all → All (IsRight journal) all
    → IsLegal (λ (step : PlainStep). step.op) (λ (step : PlainStep). step.reply) (map step_of all)
run_is_legal journal all legal changes numbered known right at item lt =
    let size = length-map all step_of in
    let at_lt : at < length all = omega (arith, size, lt) in
    let one = get_or all at nobody in
    let is : one ≡ get_or all at one = get_or_default all at nobody one at_lt in
    let step : get_or (map step_of all) at item ≡ step_of one = get_or-map step_of all at nobody item at_lt in
    let before : map (λ (step : PlainStep). step.op) (take at (map step_of all)) ≡ ops_in (take at all) =
    ap (map (λ (step : PlainStep). step.op)) (take-map step_of at all)
    ∙ map-map (λ (step : PlainStep). step.op) step_of (take at all) in
    rw (step, before)
    (told journal all legal changes numbered known right at one at_lt is (is_change one.receipt.op) refl)
