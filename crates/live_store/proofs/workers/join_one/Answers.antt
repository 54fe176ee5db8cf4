-- A thread that wasn't started has an empty log.
use Rattle.std.proofs.Common.{rules, List, [], sym, subst, ◌∙◌}
use Rattle.op_book.specs.Operations.{PlainReceipt}
use Rattle.live_store.specs.Sessions.{IsBorneOut}
use Rattle.live_store.proofs.Knowing.{borne_fresh}
use Rattle.live_store.proofs.workers.join_one.Goals as goal

pub returns-clause-finished : goal.returns-clause-finished
returns-clause-finished g c =
    let none = c.new-in-None.ensures ∙ c.new.ensures.items in
    record {
      work = search rules;
      session_is = search rules;
      seen = (
        search rules,
        (
          [],
          subst (λ (log : List PlainReceipt). IsBorneOut c.args.begun.session log [])
              (sym none) (borne_fresh c.args.begun.session []),
          tt,
        ),
      );
    }
