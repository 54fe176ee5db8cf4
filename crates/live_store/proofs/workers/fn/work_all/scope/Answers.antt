-- One thread more.
use Rattle.std.proofs.Common.{◌<◌, arith, rules, subst, sym}
use Rattle.std.specs.Prelude.{All}
use Rattle.std.proofs.lemmas.Grind.{common_steps}
use Rattle.std.proofs.lemmas.List.Elements.{All-push}
use Rattle.live_store.proofs.workers.fn.work_all.scope.Goals as goal

pub loop-worker-preserved : goal.loop-worker-preserved
loop-worker-preserved g c =
    let sessions = g.N.StoreName.sessions in
    let known : c.number-session.result < sessions =
    omega (arith, c.number-session.ensures.number, c.number-session.ensures.known) in (
      grind (arith, common_steps),
      search rules,
      search rules,
      subst (All (λ one. one.session < sessions)) (sym c.push_reserved.ensures.items)
          (All-push (λ one. one.session < sessions) c.loop-worker.begun.items _ c.loop-worker.invariant.3 known),
      grind (arith, common_steps),
    )
