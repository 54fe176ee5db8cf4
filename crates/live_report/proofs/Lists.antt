-- What operations of lists weigh, as the lists grow.
use Rattle.std.proofs.lemmas.Grind.{common_steps}
use Rattle.std.proofs.Common.{ℕ, zero, suc, ◌≡◌, ◌<◌, ◌+◌, ◌*◌, List, [], ◌∷◌, ◌++◌, length, get_or, set, map}
use Rattle.std.proofs.Common.{Option, None}
use Rattle.std.proofs.Common.{ap, sym, subst, ◌∙◌, refl, arith}
use Rattle.std.specs.Prelude.{MatchOption, replicate, sum_by}
use Rattle.std.proofs.lemmas.List.{append_assoc, get_or-map, length-map, map_push}
use Rattle.std.proofs.lemmas.List.Folds.{sum_by-replicate}
use Rattle.std.proofs.lemmas.List.Sums.{sum_by-append, sum_by-cons, sum_by_push, sum_by-set}
use Rattle.op_book.specs.Operations.{PlainOp}
use Rattle.op_book.specs.declared.entry.SessionLog.{SessionLog}
use Rattle.live_store.specs.Workers.{AreWorkOf, IsStoppedBy, ops_told}
use Rattle.live_store.specs.declared.workers.Stop.{Stop}
use Rattle.live_store.specs.declared.workers.FinishedWorker.{FinishedWorker}
use Rattle.live_report.specs.Dealing.{AreDealt, addition, total_at, totals_from, turns_of, weigh}
use Rattle.profile_rows.specs.Values.{BatchState}

-- one operation more at the end of a list
pub weigh-push : (weight : PlainOp → ℕ) (lists : List (List PlainOp)) (k : ℕ) (old : List PlainOp) (op : PlainOp)
    → k < length lists → get_or lists k [] ≡ old
    → weigh weight (set lists k (old ++ op ∷ [])) ≡ weigh weight lists + weight op
weigh-push weight lists k old op lt is =
    grind (arith, common_steps, sum_by_push, sum_by-set (sum_by weight) lists k (old ++ op ∷ []) [] lt)

abbrev pub none : List PlainOp
none = []

-- empty lists weigh nothing
pub weigh-none : (weight : PlainOp → ℕ) (count : ℕ) → weigh weight (replicate count none) ≡ 0
weigh-none weight count = omega (arith, sum_by-replicate (sum_by weight) count none)

-- each empty list is empty
pub get_or-none : (count worker : ℕ) → get_or (replicate count none) worker none ≡ none
get_or-none zero worker = refl
get_or-none (suc count) zero = refl
get_or-none (suc count) (suc worker) = get_or-none count worker

-- the same operations at the end of each list
pub weigh-ends : (weight : PlainOp → ℕ) (ends : List PlainOp) (lists : List (List PlainOp))
    → weigh weight (map (λ list. list ++ ends) lists) ≡ weigh weight lists + length lists * sum_by weight ends
weigh-ends weight ends [] = omega arith
weigh-ends weight ends (list ∷ lists) =
    grind (arith, common_steps, sum_by-cons, sum_by-append, weigh-ends weight ends lists)

-- one total more, of the next value
pub totals-more : (value more : ℕ) (front : List PlainOp)
    → (front ++ total_at value ∷ []) ++ totals_from (value + 1) more ≡ front ++ totals_from value (suc more)
totals-more value more front = append_assoc front (total_at value ∷ []) (totals_from (value + 1) more)

pub dealt_from : (batch : BatchState) (sessions : ℕ) (dealt asked : List (List PlainOp)) → length dealt ≡ sessions
    → ((weight : PlainOp → ℕ) → weigh weight dealt ≡ sum_by weight (map (addition batch.width) batch.rows))
    → ((worker : ℕ) → worker < sessions
    → get_or dealt worker [] ≡ map (addition batch.width) (turns_of sessions worker batch.rows))
    → asked ≡ map (λ list. list ++ totals_from 0 batch.width) dealt → AreDealt batch sessions asked
dealt_from batch sessions dealt asked count rows turns ends = record {
  count = ap length ends ∙ length-map dealt (λ list. list ++ totals_from 0 batch.width) ∙ count;
  same = λ weight. ap (weigh weight) ends ∙ weigh-ends weight (totals_from 0 batch.width) dealt
      ∙ ap (λ n. n + length dealt * sum_by weight (totals_from 0 batch.width)) (rows weight)
      ∙ ap (λ n. sum_by weight (map (addition batch.width) batch.rows) + n * sum_by weight (totals_from 0 batch.width))
      count;
  turns = λ worker lt. ap (λ l. get_or l worker []) ends
      ∙ get_or-map (λ list. list ++ totals_from 0 batch.width) dealt worker [] [] (omega (arith, lt, count))
      ∙ ap (λ list. list ++ totals_from 0 batch.width) (turns worker lt);
}

-- the next worker's log tells the next list
pub logs-more : (limit width : ℕ) (lists : List (List PlainOp)) (one : FinishedWorker) (rest : List FinishedWorker)
    (logs : List SessionLog) → AreWorkOf limit width lists (one ∷ rest) → one.stopped ≡ None
    → (others : List (List PlainOp)) × AreWorkOf limit width others rest
    × (map (λ (log : SessionLog). ops_told log.receipts) logs ++ lists
    ≡ map (λ (log : SessionLog). ops_told log.receipts) (logs ++ one.log ∷ []) ++ others)
logs-more limit width [] one rest logs works finished = absurd works
logs-more limit width (list ∷ others) one rest logs works finished =
    let told : ops_told one.log.receipts ≡ list =
    subst (λ (stopped : Option Stop). MatchOption stopped (ops_told one.log.receipts ≡ list)
    (λ stop. (stop.step ≡ length one.log.receipts) × IsStoppedBy limit width list one.log.receipts stop.cause))
    finished works.0 in (
      others,
      works.1,
      ap (λ (l : List PlainOp). map (λ (log : SessionLog). ops_told log.receipts) logs ++ l ∷ others) (sym told)
          ∙ sym (append_assoc
          (map (λ (log : SessionLog). ops_told log.receipts) logs) (ops_told one.log.receipts ∷ []) others)
          ∙ ap (λ (front : List (List PlainOp)). front ++ others)
          (sym (map_push (λ (log : SessionLog). ops_told log.receipts) logs one.log)),
    )

-- where nothing is left, all lists are told
pub logs-end : (limit width : ℕ) (lists : List (List PlainOp)) → AreWorkOf limit width lists [] → lists ≡ []
logs-end limit width [] works = refl
logs-end limit width (list ∷ lists) works = absurd works
