-- What was audited is what was dealt.
use Rattle.std.proofs.lemmas.Grind.{common_steps}
use Rattle.std.proofs.Common.{ℕ, zero, suc, ◌≡◌, ◌≤◌, ◌+◌, ◌*◌, inl, inr, Bool, true, false, cond, Option, Some, None}
use Rattle.std.proofs.Common.{List, [], ◌∷◌, ◌++◌, All, get_or, length, filter, map, ap, sym, subst, ◌∙◌, refl, arith}
use Rattle.std.specs.Prelude.{IsPermutation, IsSomeAnd, MatchOption, slice_get, sum_by}
use Rattle.std.specs.List.{flat_map}
use Rattle.std.proofs.lemmas.List.{length-map}
use Rattle.std.proofs.lemmas.List.Elements.{All-cons, All-nil}
use Rattle.std.proofs.lemmas.List.Sums.{sum_by-append, sum_by-cons}
use Rattle.profile_rows.specs.Rows.{weight_of}
use Rattle.profile_rows.specs.Values.{BatchState, Row, rows_at}
use Rattle.op_book.specs.Books.{JournalState}
use Rattle.op_book.specs.Receipts.{Precedes}
use Rattle.log_audit.specs.Matching.{IsInOrder, IsKnown, IsOfJournal, LoggedReceipt, LogsMatch, PlainStep}
use Rattle.op_book.specs.Receipts.{key_of}
use Rattle.log_audit.specs.Matching.{logged, logged_after, logged_from, steps_in}
use Rattle.op_book.specs.Operations.{PlainEntry, PlainOp, PlainReceipt, add, reset, ask, addition_of, batches_after}
use Rattle.op_book.specs.Operations.{is_change, is_reset, operations_of, profile_after}
use Rattle.op_book.specs.declared.entry.SessionLog.{SessionLog}
use Rattle.log_audit.proofs.Following.{nobody}
use Rattle.log_audit.proofs.Numbering.{key_by}
use Rattle.log_audit.proofs.Weighing as weighing
use Rattle.log_audit.proofs.Weighing.{added, counted, of_changes, sum_by-map, weigh_log, weigh_logs}
use Rattle.live_store.specs.Workers.{ops_told}
use Rattle.live_report.specs.Dealing.{AreDealt, addition, total_at, totals_from, warm_lists, weigh}
use Rattle.live_report.specs.Live.{operations_in}
use Rattle.flame_words.specs.LiveOptions.{PlainOptions}

-- ---- sums

sum_by-one : {X : Type 0} (xs : List X) → sum_by (λ _. 1) xs ≡ length xs
sum_by-one [] = refl
sum_by-one (x ∷ xs) = grind (arith, common_steps, sum_by-cons, sum_by-one xs)

-- ---- what logs tell

logs_weigh : (weight : PlainOp → ℕ) (logs : List SessionLog)
    → weigh_logs (λ op reply. weight op) logs ≡ weigh weight (map (λ (log : SessionLog). ops_told log.receipts) logs)
logs_weigh weight [] = refl
logs_weigh weight (log ∷ logs) =
    grind (
      arith,
      common_steps,
      sum_by-cons,
      sum_by-map weight (λ (receipt : PlainReceipt). receipt.op) log.receipts,
      logs_weigh weight logs,
    )

-- the run's operations weigh what was told, and that is a warm start and what was dealt
pub run_weighs : (batch : BatchState) (sessions : ℕ)
    (warm lists : List (List PlainOp)) (logs : List SessionLog) (run : List PlainStep) → AreDealt batch sessions lists
    → map (λ (log : SessionLog). ops_told log.receipts) logs ≡ warm ++ lists → IsPermutation (steps_in logs) run
    → (weight : PlainOp → ℕ) → sum_by (λ (step : PlainStep). weight step.op) run
    ≡ weigh weight warm
    + (sum_by weight (map (addition batch.width) batch.rows) + sessions * sum_by weight (totals_from 0 batch.width))
run_weighs batch sessions warm lists logs run dealt told once weight =
    weighing.run_weighs (λ op reply. weight op) logs run once
    ∙ logs_weigh weight logs
    ∙ ap (weigh weight) told
    ∙ sum_by-append (sum_by weight) warm lists
    ∙ ap (λ n. weigh weight warm + n) (dealt.same weight)

length-totals_from : (value more : ℕ) → length (totals_from value more) ≡ more
length-totals_from value zero = refl
length-totals_from value (suc more) = grind (arith, common_steps, length-totals_from (value + 1) more)

counts_warm : (is : Bool) (batch : BatchState) → weigh (λ _. 1) (warm_lists (cond is (Some batch) None)) ≡ cond is 3 0
counts_warm true batch = refl
counts_warm false batch = refl

pub run_counts : (batch : BatchState) (options : PlainOptions) (warm : Option BatchState) (lists : List (List PlainOp))
    (logs : List SessionLog) (run : List PlainStep) → AreDealt batch options.sessions lists
    → map (λ (log : SessionLog). ops_told log.receipts) logs ≡ warm_lists warm ++ lists
    → IsPermutation (steps_in logs) run → warm ≡ cond options.warm (Some batch) None
    → length run ≡ operations_in options batch
run_counts batch options warm lists logs run dealt told once is =
    sym (sum_by-one run)
    ∙ run_weighs batch options.sessions (warm_lists warm) lists logs run dealt told once (λ _. 1)
    ∙ ap (λ n. n + (sum_by (λ _. 1) (map (addition batch.width) batch.rows) + options.sessions * sum_by (λ _. 1)
    (totals_from 0 batch.width))) (ap (λ w. weigh (λ _. 1) (warm_lists w)) is ∙ counts_warm options.warm batch)
    ∙ ap (λ n. cond options.warm 3 0 + (n + options.sessions * sum_by (λ _. 1) (totals_from 0 batch.width)))
    (sum_by-one (map (addition batch.width) batch.rows) ∙ length-map batch.rows (addition batch.width))
    ∙ ap (λ n. cond options.warm 3 0 + (length batch.rows + options.sessions * n))
    (sum_by-one (totals_from 0 batch.width) ∙ length-totals_from 0 batch.width)

-- ---- what the journal's entries add

abbrev resets : PlainOp → ℕ
resets op = cond (is_reset op) 1 0

no_totals : (weight : PlainOp → ℕ)
    → ((value : ℕ) → weight (total_at value) ≡ 0) → (value more : ℕ) → sum_by weight (totals_from value more) ≡ 0
no_totals weight none value zero = refl
no_totals weight none value (suc more) =
    grind (arith, common_steps, sum_by-cons, none value, no_totals weight none (value + 1) more)

zero_times : (k : ℕ) → k * 0 ≡ 0
zero_times zero = refl
zero_times (suc k) = grind (arith, common_steps, zero_times k)

-- the entries weigh what the warm start and the additions do
entries_weigh : (batch : BatchState) (sessions : ℕ) (warm lists : List (List PlainOp))
    (logs : List SessionLog) (run : List PlainStep) (entries : List PlainOp) → AreDealt batch sessions lists
    → map (λ (log : SessionLog). ops_told log.receipts) logs ≡ warm ++ lists
    → IsPermutation (steps_in logs) run → filter is_change (map (λ (step : PlainStep). step.op) run) ≡ entries
    → (weight : PlainOp → ℕ) → ((op : PlainOp) → is_change op ≡ false → weight op ≡ 0)
    → sum_by weight entries ≡ weigh weight warm + sum_by weight (map (addition batch.width) batch.rows)
entries_weigh batch sessions warm lists logs run entries dealt told once changes weight none =
    let whole : sum_by weight entries ≡ weigh weight warm + (sum_by weight
    (map (addition batch.width) batch.rows) + sessions * sum_by weight (totals_from 0 batch.width)) =
    ap (sum_by weight) (sym changes)
    ∙ of_changes weight none (map (λ (step : PlainStep). step.op) run)
    ∙ sum_by-map weight (λ (step : PlainStep). step.op) run
    ∙ run_weighs batch sessions warm lists logs run dealt told once weight in
    let totals : sum_by weight (totals_from 0 batch.width) ≡ 0 =
    no_totals weight (λ value. none (total_at value) refl) 0 batch.width in
    let product : sessions * sum_by weight (totals_from 0 batch.width) ≡ 0 = ap (λ n. sessions * n) totals
    ∙ zero_times sessions in
    omega (arith, whole, product)

reports_add_nothing : (value : ℕ) (stack : List (List ℕ)) (op : PlainOp)
    → is_change op ≡ false → added value stack op ≡ 0
reports_add_nothing value stack (add batch) report = absurd (cc)
reports_add_nothing value stack reset report = refl
reports_add_nothing value stack (ask query) report = refl

reports_reset_nothing : (op : PlainOp) → is_change op ≡ false → resets op ≡ 0
reports_reset_nothing (add batch) report = refl
reports_reset_nothing reset report = absurd (cc)
reports_reset_nothing (ask query) report = refl

none_reset : (operations : List PlainOp) → sum_by resets operations ≡ 0 → All (λ op. is_reset op ≡ false) operations
none_reset [] sum = All-nil (λ op. is_reset op ≡ false)
none_reset (op ∷ operations) sum =
    let here = sum_by-cons resets op operations in
    All-cons (λ op. is_reset op ≡ false) op operations
    (one op (omega (arith, here, sum))) (none_reset operations (omega (arith, here, sum)))
  where
    one : (op : PlainOp) → resets op ≡ 0 → is_reset op ≡ false
    one op none = grind (arith, common_steps)

-- rows that are added one by one reset nothing, and add what they are
additions_reset_nothing : (width : ℕ) (rows : List Row) → sum_by resets (map (addition width) rows) ≡ 0
additions_reset_nothing width [] = refl
additions_reset_nothing width (row ∷ rows) =
    grind (arith, common_steps, sum_by-cons, additions_reset_nothing width rows)

additions_add : (value : ℕ) (stack : List (List ℕ)) (width : ℕ) (rows : List Row)
    → sum_by (added value stack) (map (addition width) rows) ≡ weight_of (rows_at value rows) stack
additions_add value stack width [] = refl
additions_add value stack width (row ∷ rows) =
    grind (arith, common_steps, sum_by-cons, additions_add value stack width rows)

-- ---- the entries after a warm start

-- The entries begin with those of a warm start, where there is one, and none of the others is a reset: these are what
-- counts.
pub record IsWarmed (warm : Option BatchState) (entries : List PlainOp) : Type 0 where
  pub later : List PlainOp
  pub split : MatchOption warm (entries ≡ later) (λ batch. entries ≡ add batch ∷ reset ∷ later)

-- the later entries weigh what the additions do
later_weigh : (batch : BatchState) (sessions : ℕ) (warm : Option BatchState) (lists : List (List PlainOp))
    (logs : List SessionLog) (run : List PlainStep) (entries later : List PlainOp) → AreDealt batch sessions lists
    → map (λ (log : SessionLog). ops_told log.receipts) logs ≡ warm_lists warm ++ lists
    → IsPermutation (steps_in logs) run → filter is_change (map (λ (step : PlainStep). step.op) run) ≡ entries
    → MatchOption warm (entries ≡ later) (λ batch. entries ≡ add batch ∷ reset ∷ later)
    → (weight : PlainOp → ℕ) → ((op : PlainOp) → is_change op ≡ false → weight op ≡ 0)
    → sum_by weight later ≡ sum_by weight (map (addition batch.width) batch.rows)
later_weigh batch sessions None lists logs run entries later dealt told once changes split weight none =
    let whole = entries_weigh batch sessions [] lists logs run entries dealt told once changes weight none in
    let all = ap (sum_by weight) split in
    let empty : weigh weight [] ≡ 0 = refl in
    omega (arith, whole, all, empty)
later_weigh batch sessions (Some first) lists logs run entries later dealt told once changes split weight none =
    let whole = entries_weigh batch sessions
    (warm_lists (Some first)) lists logs run entries dealt told once changes weight none in
    let all = ap (sum_by weight) split in
    let one = sum_by-cons weight (add first) (reset ∷ later) in
    let two = sum_by-cons weight reset later in
    let warm : weigh weight (warm_lists (Some first))
    ≡ 0 + (((0 + weight (add first)) + weight (total_at 0)) + weight reset) = refl in
    let total = none (total_at 0) refl in
    omega (arith, whole, all, one, two, warm, total)

-- only the later entries count
later_count : (warm : Option BatchState) (entries later : List PlainOp)
    → MatchOption warm (entries ≡ later) (λ batch. entries ≡ add batch ∷ reset ∷ later)
    → ((before after : List PlainOp)
    → All (λ op. is_reset op ≡ false) after → batches_after (before ++ reset ∷ after) ≡ flat_map addition_of after)
    → ((operations : List PlainOp)
    → All (λ op. is_reset op ≡ false) operations → batches_after operations ≡ flat_map addition_of operations)
    → All (λ op. is_reset op ≡ false) later → batches_after entries ≡ flat_map addition_of later
later_count None entries later split last all none = ap batches_after split ∙ all later none
later_count (Some first) entries later split last all none = ap batches_after split ∙ last (add first ∷ []) later none

-- each stack weighs in the journal's profile what it weighs in the batch
pub profile_weighs : (batch : BatchState) (sessions : ℕ) (warm : Option BatchState) (lists : List (List PlainOp))
    (logs : List SessionLog) (run : List PlainStep) (entries : List PlainOp) → AreDealt batch sessions lists
    → map (λ (log : SessionLog). ops_told log.receipts) logs ≡ warm_lists warm ++ lists
    → IsPermutation (steps_in logs) run → filter is_change (map (λ (step : PlainStep). step.op) run) ≡ entries
    → IsWarmed warm entries
    → ((before after : List PlainOp)
    → All (λ op. is_reset op ≡ false) after → batches_after (before ++ reset ∷ after) ≡ flat_map addition_of after)
    → ((operations : List PlainOp)
    → All (λ op. is_reset op ≡ false) operations → batches_after operations ≡ flat_map addition_of operations)
    → (value : ℕ) (stack : List (List ℕ))
    → weight_of (rows_at value batch.rows) stack ≡ weight_of (rows_at value (profile_after entries)) stack
profile_weighs batch sessions warm lists logs run entries dealt told once changes warmed last all value stack =
    let later = warmed.later in
    let none = none_reset later (later_weigh batch sessions warm lists logs run entries later dealt
    told once changes warmed.split resets reports_reset_nothing ∙ additions_reset_nothing batch.width batch.rows) in
    let counts : profile_after entries ≡ flat_map (λ (batch : BatchState). batch.rows) (flat_map addition_of later) = ap
    (flat_map (λ (batch : BatchState). batch.rows)) (later_count warm entries later warmed.split last all none) in
    sym (additions_add value stack batch.width batch.rows)
    ∙ sym (later_weigh batch sessions warm lists logs run entries later dealt told once changes warmed.split
    (added value stack) (reports_add_nothing value stack))
    ∙ sym (counted value stack later)
    ∙ ap (λ (rows : List Row). weight_of (rows_at value rows) stack) (sym counts)

-- ---- a warm start whose reset is the second change

-- what follows from three receipts of one log that are in order
record IsWarmLog (batch : BatchState) (receipts : List PlainReceipt) : Type 0 where
  pub first : PlainReceipt
  pub second : PlainReceipt
  pub third : PlainReceipt
  pub are : receipts ≡ first ∷ second ∷ third ∷ []
  pub adds : first.op ≡ add batch
  pub asks : second.op ≡ total_at 0
  pub resets : third.op ≡ reset

warm_log : (batch : BatchState) (receipts : List PlainReceipt)
    → ops_told receipts ≡ add batch ∷ total_at 0 ∷ reset ∷ [] → IsWarmLog batch receipts
warm_log batch [] told = absurd (let sizes = ap length told in omega (arith, sizes))
warm_log batch (a ∷ []) told = absurd (let sizes = ap length told in omega (arith, sizes))
warm_log batch (a ∷ b ∷ []) told = absurd (let sizes = ap length told in omega (arith, sizes))
warm_log batch (a ∷ b ∷ c ∷ []) told = record {
  first = a;
  second = b;
  third = c;
  are = refl;
  adds = ap (λ ops. get_or ops 0 reset) told;
  asks = ap (λ ops. get_or ops 1 reset) told;
  resets = ap (λ ops. get_or ops 2 reset) told;
}
warm_log batch (a ∷ b ∷ c ∷ d ∷ rest) told = absurd (let sizes = ap length told in omega (arith, sizes))

precedes_le : (earlier later : PlainReceipt) → Precedes earlier later → key_of earlier ≤ key_of later
precedes_le earlier later (inl less) = omega (arith, less)
precedes_le earlier later (inr (same, report)) = omega (arith, same)

some_weaker : {X : Type 0} (found : Option X) (P Q : X → Type 0)
    → ((x : X) → P x → Q x) → IsSomeAnd found P → IsSomeAnd found Q
some_weaker None P Q weaker has = absurd has
some_weaker (Some x) P Q weaker has = weaker x has

-- the entry that a change has
entry_of : (journal : JournalState) (session : ℕ) (receipt : PlainReceipt) (op : PlainOp)
    → receipt.op ≡ op → is_change op ≡ true → IsOfJournal journal session receipt receipt.op
    → IsSomeAnd (slice_get journal.entries receipt.at) (λ entry. entry.op ≡ op)
entry_of journal session receipt (add batch) is change of =
    let has = subst (λ (o : PlainOp). IsOfJournal journal session receipt o) is of in
    some_weaker (slice_get journal.entries receipt.at) (λ entry. (entry.session ≡ session) × (entry.op ≡ receipt.op)
    × (entry.reply ≡ receipt.reply)) (λ entry. entry.op ≡ add batch) (λ entry it. it.1 ∙ is) has
entry_of journal session receipt reset is change of =
    let has = subst (λ (o : PlainOp). IsOfJournal journal session receipt o) is of in
    some_weaker (slice_get journal.entries receipt.at) (λ entry. (entry.session ≡ session) × (entry.op ≡ receipt.op)
    × (entry.reply ≡ receipt.reply)) (λ entry. entry.op ≡ reset) (λ entry it. it.1 ∙ is) has
entry_of journal session receipt (ask query) is change of = absurd (cc)

-- the first two of entries
two_first : (entries : List PlainEntry) (one two : PlainOp) → IsSomeAnd (slice_get entries 0) (λ entry. entry.op ≡ one)
    → IsSomeAnd (slice_get entries 1) (λ entry. entry.op ≡ two)
    → (later : List PlainOp) × (operations_of entries ≡ one ∷ two ∷ later)
two_first [] one two first second = absurd first
two_first (a ∷ []) one two first second = absurd second
two_first (a ∷ b ∷ rest) one two first second = (operations_of rest, λ i. first i ∷ second i ∷ operations_of rest)

pub warmed_by : (journal : JournalState) (batch : BatchState) (logs : List SessionLog) (lists : List (List PlainOp))
    → LogsMatch journal logs
    → map (λ (log : SessionLog). ops_told log.receipts) logs ≡ warm_lists (Some batch) ++ lists
    → IsSomeAnd (slice_get logs 0) (λ log. IsSomeAnd (slice_get log.receipts 2) (λ receipt. receipt.at ≡ 1))
    → IsWarmed (Some batch) (operations_of journal.entries)
warmed_by journal batch [] lists is told at = absurd at
warmed_by journal batch (log ∷ logs) lists is told at =
    let warm = warm_log batch log.receipts (ap (λ (l : List (List PlainOp)). get_or l 0 []) told) in
    let here : logged (log ∷ logs) ≡ logged_from 0 log.session 0 None
    (warm.first ∷ warm.second ∷ warm.third ∷ []) ++ logged_after (0 + length log.receipts) logs =
    ap (λ (receipts : List PlainReceipt). logged_from 0 log.session 0 None receipts ++ logged_after
    (0 + length log.receipts) logs) warm.are in
    let place : warm.third.at ≡ 1 = subst
    (λ (receipts : List PlainReceipt). IsSomeAnd (slice_get receipts 2) (λ receipt. receipt.at ≡ 1)) warm.are at in
    let known = subst (λ (l : List LoggedReceipt). All (IsKnown journal) l) here is.known in
    let order = subst (λ (l : List LoggedReceipt). All IsInOrder l) here is.in_order in
    let one = precedes_le warm.first warm.second (order 1 nobody (omega arith)) in
    let two = precedes_le warm.second warm.third (order 2 nobody (omega arith)) in
    let a = key_by warm.first true (ap is_change warm.adds) in
    let b = key_by warm.second false (ap is_change warm.asks) in
    let c = key_by warm.third true (ap is_change warm.resets) in
    let start : warm.first.at ≡ 0 = omega (arith, one, two, a, b, c, place) in
    let first = subst (λ k. IsSomeAnd (slice_get journal.entries k) (λ entry. entry.op ≡ add batch)) start
    (entry_of journal log.session warm.first (add batch) warm.adds refl (known 0 nobody (omega arith)).1) in
    let second = subst (λ k. IsSomeAnd (slice_get journal.entries k) (λ entry. entry.op ≡ reset)) place
    (entry_of journal log.session warm.third reset warm.resets refl (known 2 nobody (omega arith)).1) in
    let (later, split) = two_first journal.entries (add batch) reset first second in
    record { later = later; split = split }

pub warmed_if : (journal : JournalState) (batch : BatchState) (is : Bool)
    (warm : Option BatchState) (logs : List SessionLog) (lists : List (List PlainOp)) → LogsMatch journal logs
    → map (λ (log : SessionLog). ops_told log.receipts) logs ≡ warm_lists warm ++ lists
    → warm ≡ cond is (Some batch) None
    → (is ≡ true → IsSomeAnd (slice_get logs 0) (λ log. IsSomeAnd
    (slice_get log.receipts 2) (λ receipt. receipt.at ≡ 1))) → IsWarmed warm (operations_of journal.entries)
warmed_if journal batch true warm logs lists is told warm_is at =
    subst (λ (w : Option BatchState). IsWarmed w (operations_of journal.entries)) (sym warm_is)
    (warmed_by journal batch logs lists is (subst (λ (w : Option BatchState). map
    (λ (log : SessionLog). ops_told log.receipts) logs ≡ warm_lists w ++ lists) warm_is told) (at refl))
warmed_if journal batch false warm logs lists is told warm_is at =
    subst (λ (w : Option BatchState). IsWarmed w (operations_of journal.entries))
    (sym warm_is) (record { later = operations_of journal.entries; split = refl })
