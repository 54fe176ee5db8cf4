-- One more.
use Rattle.std.proofs.Common.{◌≡◌, ◌∷◌, ◌++◌, None, [], List, Option, ap, arith, map, rules, sym, subst, ◌∙◌}
use Rattle.std.specs.Option.{option_or}
use Rattle.std.proofs.lemmas.List.{append-nil, nil_from_length}
use Rattle.op_book.specs.Operations.{PlainOp}
use Rattle.op_book.specs.declared.entry.SessionLog.{SessionLog}
use Rattle.live_store.specs.Workers.{AreWorkOf, ops_told}
use Rattle.live_store.specs.declared.workers.Stop.{Stop}
use Rattle.live_store.specs.declared.workers.FinishedWorker.{FinishedWorker}
use Rattle.live_report.specs.Faults.{first_stop}
use Rattle.live_report.proofs.Lists.{logs-end, logs-more}
use Rattle.live_report.proofs.storing.push_logs.Goals as goal

pub loop-one-preserved : goal.loop-one-preserved
loop-one-preserved c =
    let left = c.next.new.self.rest.items in
    let finished : c.in-Some.one.stopped ≡ None = c.in_default.is in (
      (λ limit width lists are.
          let (others, works, so_far) = c.loop-one.invariant.0 limit width lists are in
          let next : AreWorkOf limit width others (c.in-Some.one ∷ left) = subst
          (λ (rest : List FinishedWorker). AreWorkOf limit width others rest) c.in-Some.ensures.steps.0 works in
          let (later, done, more) =
          logs-more limit width others c.in-Some.one left c.loop-one.logs.items next finished in (
            later,
            done,
            so_far ∙ more ∙ ap (λ (logs : List SessionLog). map
                (λ (log : SessionLog). ops_told log.receipts) logs ++ later) (sym c.push_reserved.ensures.items),
          )),
      c.loop-one.invariant.1 ∙ ap first_stop c.in-Some.ensures.steps.0
          ∙ ap (λ (stop : Option Stop). option_or stop (first_stop left)) finished,
      search rules,
    )

pub returns-clause-told : goal.returns-clause-told
returns-clause-told c = λ limit width lists are.
    let (others, works, so_far) = c.loop-one.invariant.0 limit width lists are in
    let none : c.loop-one.one-iterator.rest.items ≡ [] =
    nil_from_length _ (omega (arith, c.loop-one.one-iterator.rest.ok.0, c.in-None.ensures.steps.0)) in
    let empty : others ≡ [] = logs-end limit width others
    (subst (λ (rest : List FinishedWorker). AreWorkOf limit width others rest) none works) in
    let told = map (λ (log : SessionLog). ops_told log.receipts) c.loop-one.logs.items in
    sym (so_far ∙ ap (λ (l : List (List PlainOp)). told ++ l) empty ∙ append-nil told)
