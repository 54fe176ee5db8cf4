-- What an entry more changes.
use Rattle.std.proofs.lemmas.Grind.{common_steps}
use Rattle.std.proofs.Common.{◌≡◌, ℕ, suc, ◌+◌, ◌<◌, ◌≤◌, ◌^◌, Bool, true, false, cond, ◌||◌, List, [], ◌∷◌, ◌++◌}
use Rattle.std.proofs.Common.{length, sym, refl, ap, subst, ◌∙◌, arith}
use Rattle.std.proofs.Math.ListN.{get_or-append}
use Rattle.std.proofs.lemmas.Bool.{cases_lt}
use Rattle.std.proofs.lemmas.List.{append-nil, append_assoc, flat_map_more, get_or_push, length-append, map-append}
use Rattle.std.proofs.lemmas.List.{map_push, take-append-le, take_all}
use Rattle.std.proofs.lemmas.List.Folds.{list_any-append}
use mathlib.Core.Bool.{or-false, or-true}
use Rattle.std.proofs.lemmas.List.Sums.{sum_by-cons, sum_by_push, sum_by-append}
use Rattle.std.specs.Prelude.{◌==◌}
use Rattle.std.specs.List.{flat_map, list_any}
use Rattle.profile_rows.specs.Rows.{total_of}
use Rattle.profile_rows.specs.Values.{BatchState, rows_at}
use Rattle.op_book.specs.Operations.{PlainEntry, PlainOp, add, reset, ask, addition_of, batches_after, changes_in}
use Rattle.op_book.specs.Operations.{is_change, is_reset, operations_of, placed, plain_answer, profile_after}
use Rattle.op_book.specs.Operations.{rows_added}
use Rattle.op_book.specs.Runs.{AreChanges, EachAfter, KeepLimit, turns_of}

pub EachAfter-push : {X : Type 0} (Has : List X → X → Type 0) (items : List X) (last : X)
    → EachAfter Has items → Has items last → EachAfter Has (items ++ last ∷ [])
EachAfter-push {X} Has items last each here at d lt =
    grind (arith, common_steps, get_or-append, cases_lt, get_or_push, length-append, take-append-le, take_all)

pub operations_of-push : (entries : List PlainEntry) (last : PlainEntry)
    → operations_of (entries ++ last ∷ []) ≡ operations_of entries ++ last.op ∷ []
operations_of-push entries last = map_push (λ (entry : PlainEntry). entry.op) entries last

-- a reset after these operations makes none of them count
pub batches_after-reset : (operations : List PlainOp) → batches_after (operations ++ reset ∷ []) ≡ []
batches_after-reset [] = refl
batches_after-reset (op ∷ operations) =
    let any : list_any is_reset (operations ++ reset ∷ []) ≡ true = list_any-append is_reset operations (reset ∷ [])
    ∙ or-true (list_any is_reset operations) in
    ap (λ b. cond b (batches_after (operations ++ reset ∷ []))
    (addition_of op ++ batches_after (operations ++ reset ∷ []))) any ∙ batches_after-reset operations

-- what another operation adds counts too
pub batches_after-push : (operations : List PlainOp) (op : PlainOp)
    → is_reset op ≡ false → batches_after (operations ++ op ∷ []) ≡ batches_after operations ++ addition_of op
batches_after-push [] op kept = append-nil (addition_of op)
batches_after-push (first ∷ operations) op kept =
    let rest = batches_after-push operations op kept in
    let any : list_any is_reset (operations ++ op ∷ []) ≡ list_any is_reset operations =
    list_any-append is_reset operations (op ∷ [])
    ∙ ap (λ b. list_any is_reset operations || (b || false)) kept ∙ or-false (list_any is_reset operations) in
    ap (λ b. cond b
    (batches_after (operations ++ op ∷ [])) (addition_of first ++ batches_after (operations ++ op ∷ []))) any
    ∙ ap (λ l. cond (list_any is_reset operations) l (addition_of first ++ l)) rest
    ∙ either (list_any is_reset operations) (addition_of first) (batches_after operations) (addition_of op)
  where
    either : (b : Bool) (one more last : List BatchState)
        → cond b (more ++ last) (one ++ (more ++ last)) ≡ cond b more (one ++ more) ++ last
    either true one more last = refl
    either false one more last = sym (append_assoc one more last)

pub profile_after-reset : (operations : List PlainOp) → profile_after (operations ++ reset ∷ []) ≡ []
profile_after-reset operations = ap (flat_map (λ (batch : BatchState). batch.rows)) (batches_after-reset operations)

pub profile_after-push : (operations : List PlainOp) (op : PlainOp)
    → is_reset op ≡ false → profile_after (operations ++ op ∷ []) ≡ profile_after operations ++ rows_added op
profile_after-push operations (add batch) kept = grind (arith, common_steps, flat_map_more, batches_after-push)
profile_after-push operations reset kept = absurd (cc)
profile_after-push operations (ask query) kept = grind (arith, common_steps, append-nil, batches_after-push)

-- by each value
pub profile_at-push : (value : ℕ) (operations : List PlainOp) (op : PlainOp) → is_reset op ≡ false
    → rows_at value (profile_after (operations ++ op ∷ []))
    ≡ rows_at value (profile_after operations) ++ rows_at value (rows_added op)
profile_at-push value operations op kept = grind (arith, common_steps, map-append, profile_after-push)

-- what counts then weighs what counted before and what is added
pub total_at-push : (value : ℕ) (operations : List PlainOp) (op : PlainOp) → is_reset op ≡ false
    → total_of (rows_at value (profile_after (operations ++ op ∷ [])))
    ≡ total_of (rows_at value (profile_after operations)) + total_of (rows_at value (rows_added op))
total_at-push value operations op kept = grind (arith, common_steps, sum_by-append, profile_at-push)

-- what counts after one operation more weighs no more than before and what it adds
pub profile_at-le : (value : ℕ) (operations : List PlainOp) (op : PlainOp)
    → total_of (rows_at value (profile_after (operations ++ op ∷ []))) ≤ total_of
    (rows_at value (profile_after operations)) + total_of (rows_at value (rows_added op))
profile_at-le value operations (add batch) = grind (arith, common_steps, total_at-push)
profile_at-le value operations reset = grind (arith, common_steps, profile_after-reset)
profile_at-le value operations (ask query) = grind (arith, common_steps, append-nil, profile_after-push)

pub turns_of-push : (entries : List PlainEntry) (last : PlainEntry) (session : ℕ)
    → turns_of (entries ++ last ∷ []) session ≡ turns_of entries session + cond (last.session == session) 1 0
turns_of-push entries last session =
    sum_by_push (λ (entry : PlainEntry). cond (entry.session == session) 1 0) entries last

abbrev one_if : Bool → ℕ
one_if b = cond b 1 0

-- entries that are changes count as changes
pub changes_in-entries : (entries : List PlainEntry)
    → AreChanges entries → changes_in (operations_of entries) ≡ length entries
changes_in-entries [] all = refl
changes_in-entries (entry ∷ entries) all =
    let first : is_change entry.op ≡ true = all 0 entry (omega arith) in
    let rest = changes_in-entries entries (λ k d lt. all (suc k) d (omega arith)) in
    let here : changes_in (operations_of (entry ∷ entries)) ≡ one_if (is_change entry.op) + changes_in (operations_of
    entries) = sum_by-cons (λ (op : PlainOp). one_if (is_change op)) entry.op (operations_of entries) in
    let one : one_if (is_change entry.op) ≡ 1 = ap one_if first in
    omega (arith, here, one, rest)

-- after all entries the limit is kept
pub KeepLimit-whole : (entries : List PlainEntry)
    → KeepLimit entries → (value : ℕ) → total_of (rows_at value (profile_after (operations_of entries))) < 2 ^ 63
KeepLimit-whole entries keep value =
    subst (λ es. total_of (rows_at value (profile_after (operations_of es))) < 2 ^ 63)
    (take_all (length entries) entries (omega arith)) (keep (length entries) value)

-- a change after entries is told how many there are
pub plain_answer-change : (entries : List PlainEntry) (op : PlainOp)
    → AreChanges entries → is_change op ≡ true → plain_answer (operations_of entries) op ≡ placed (length entries)
plain_answer-change entries (add batch) all is = ap placed (changes_in-entries entries all)
plain_answer-change entries reset all is = ap placed (changes_in-entries entries all)
plain_answer-change entries (ask query) all is = absurd (cc)
