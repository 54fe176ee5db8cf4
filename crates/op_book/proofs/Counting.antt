-- Which batches count, and where counting begins.
use Rattle.std.proofs.lemmas.Grind.{common_steps}
use Rattle.std.proofs.Common.{ℕ, suc, ◌≡◌, ◌<◌, ◌+◌, Bool, true, false, cond, ◌||◌, List, [], ◌∷◌, ◌++◌, All, length}
use Rattle.std.proofs.Common.{get_or, take, refl, ap, sym, ◌∙◌, arith}
use Rattle.std.proofs.lemmas.List.{length-map, length-take-le, take_more}
use Rattle.std.proofs.lemmas.List.Folds.{list_any-append, list_any_none}
use mathlib.Core.Bool.{or-false}
use Rattle.std.specs.List.{flat_map, list_any}
use Rattle.flame_report.specs.declared.query.Query.{Query}
use Rattle.profile_rows.specs.Values.{BatchState}
use Rattle.op_book.specs.Operations.{PlainEntry, PlainOp, add, reset, ask, addition_of, batches_after, counting_from}
use Rattle.op_book.specs.Operations.{is_reset, operations_of}
use Rattle.op_book.proofs.EntryLaws.{operations_of-push}

pub batches_after-all : (operations : List PlainOp)
    → All (λ op. is_reset op ≡ false) operations → batches_after operations ≡ flat_map addition_of operations
batches_after-all [] none = refl
batches_after-all (op ∷ operations) none =
    let rest = batches_after-all operations (λ k d lt. none (suc k) d (omega arith)) in
    let any = list_any_none is_reset operations (λ k d lt. none (suc k) d (omega arith)) in
    ap (λ b. cond b (batches_after operations) (addition_of op ++ batches_after operations)) any
    ∙ ap (λ l. addition_of op ++ l) rest

-- whether a reset stands after
either : (b : Bool) → (b || true) ≡ true
either true = refl
either false = refl

pub batches_after-last : (before after : List PlainOp)
    → All (λ op. is_reset op ≡ false) after → batches_after (before ++ reset ∷ after) ≡ flat_map addition_of after
batches_after-last [] after none = grind (arith, common_steps, list_any_none, batches_after-all)
batches_after-last (op ∷ before) after none =
    grind (arith, common_steps, list_any-append, either, batches_after-last before after none)

same_either_way : (b : Bool) (batches : List BatchState) → cond b batches batches ≡ batches
same_either_way true batches = refl
same_either_way false batches = refl

pub batches_after-report : (before after : List PlainOp) (query : Query)
    → batches_after (before ++ ask query ∷ after) ≡ batches_after (before ++ after)
batches_after-report [] after query = same_either_way (list_any is_reset after) (batches_after after)
batches_after-report (op ∷ before) after query =
    grind (arith, common_steps, list_any-append, batches_after-report before after query)

-- counting begins after a reset that is the last of operations
pub counting_from-reset : (operations : List PlainOp)
    → counting_from (operations ++ reset ∷ []) ≡ suc (length operations)
counting_from-reset [] = refl
counting_from-reset (op ∷ operations) =
    grind (arith, common_steps, list_any-append, either, counting_from-reset operations)

-- another operation changes nothing of it
pub counting_from-other : (operations : List PlainOp) (op : PlainOp)
    → is_reset op ≡ false → counting_from (operations ++ op ∷ []) ≡ counting_from operations
counting_from-other [] op other = ap (λ b. cond b 1 0) other
counting_from-other (first ∷ operations) op other =
    grind (arith, common_steps, list_any-append, or-false, counting_from-other operations op other)

-- where counting begins after one entry more
pub counting_from-more : (entries : List PlainEntry) (i after : ℕ) (entry : PlainEntry)
    → i < length entries → entry ≡ get_or entries i entry
    → after ≡ cond (is_reset entry.op) (i + 1) (counting_from (operations_of (take i entries)))
    → after ≡ counting_from (operations_of (take (i + 1) entries))
counting_from-more entries i after entry lt is told =
    told ∙ by_case (is_reset entry.op) refl ∙ ap counting_from (sym (ap operations_of (take_more entries i entry lt
    ∙ ap (λ e. take i entries ++ e ∷ []) (sym is)) ∙ operations_of-push (take i entries) entry))
  where
    so_far : List PlainOp
    so_far = operations_of (take i entries)

    size : length so_far ≡ i
    size = length-map (take i entries) (λ (entry : PlainEntry). entry.op) ∙ length-take-le i entries (omega (arith, lt))

    reset_is : (op : PlainOp) → is_reset op ≡ true → op ≡ reset
    reset_is (add batch) is = absurd (cc)
    reset_is reset is = refl
    reset_is (ask query) is = absurd (cc)

    by_case : (b : Bool)
        → is_reset entry.op ≡ b → cond b (i + 1) (counting_from so_far) ≡ counting_from (so_far ++ entry.op ∷ [])
    by_case true is =
        let count = counting_from-reset so_far in
        let whole : counting_from (so_far ++ entry.op ∷ []) ≡ counting_from (so_far ++ reset ∷ []) =
        ap (λ op. counting_from (so_far ++ op ∷ [])) (reset_is entry.op is) in
        omega (arith, count, whole, size)
    by_case false other = sym (counting_from-other so_far entry.op other)
