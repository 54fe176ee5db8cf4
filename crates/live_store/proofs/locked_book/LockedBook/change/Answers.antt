use Rattle.std.proofs.lemmas.Grind.{common_steps}
use Rattle.std.proofs.Common.{◌∙◌, refl, subst, arith}
use Rattle.op_book.specs.Changes.{change_op}
use Rattle.op_book.specs.Operations.{PlainOp}
use Rattle.op_book.specs.declared.fault.BookFault.TheVariants as book
use Rattle.live_store.specs.Changes.{HasChanged, session_of}
use Rattle.live_store.proofs.Knowing.{caught_up, changed_since, is_change-change_op, refused_first}
use Rattle.live_store.proofs.locked_book.LockedBook.change.Goals as goal

pub returns-in-Err-clause-event : goal.returns-in-Err-clause-event
returns-in-Err-clause-event g c =
    let store = g.N.StoreName in
    let own = c.args.self.now in
    let log = c.args.log.now in
    let here = c.catch_up.new.front in
    let whole = c.catch_up.ensures.whole in
    let refused = refused_first own.book store.limit store.sessions store.width c.number.result c.turn.result
    (session_of log c.args.front.now) (session_of log here) (change_op c.args.change) own.limit own.all own.wide
    c.number.ensures c.turn.ensures c.requires.log.0 c.facts.ensures.count
    (is_change-change_op c.args.change) refl
    (caught_up c.args.front.now here own.end (whole, c.catch_up.ensures.began)) refl (whole ∙ own.whole)
    c.in-Err.fault c.in-Err.ensures.ready.first_fault in
    record {
      refused = refused;
      kept = grind (arith, common_steps, c.in-Err.ensures.ready);
      whole = grind (arith, common_steps);
    }

pub returns-in-Err-share_next-clause-event : goal.returns-in-Err-share_next-clause-event
returns-in-Err-share_next-clause-event g c =
    let store = g.N.StoreName in
    let own = c.args.self.now in
    let log = c.args.log.now in
    let here = c.catch_up.new.front in
    let whole = c.catch_up.ensures.whole in
    let refused = refused_first own.book store.limit store.sessions store.width c.number.result c.turn.result
    (session_of log c.args.front.now) (session_of log here) (change_op c.args.change) own.limit own.all own.wide
    c.number.ensures c.turn.ensures c.requires.log.0 c.facts.ensures.count
    (is_change-change_op c.args.change) refl
    (caught_up c.args.front.now here own.end (whole, c.catch_up.ensures.began)) refl (whole ∙ own.whole)
    book.NoMemory c.in-Ok.ensures.ready.taken in
    record {
      refused = refused;
      kept = grind (arith, common_steps, c.in-Ok.ensures.ready);
      whole = grind (arith, common_steps);
    }

pub returns-in-Ok-share_next-clause-event : goal.returns-in-Ok-share_next-clause-event
returns-in-Ok-share_next-clause-event g c =
    let old = c.args.front.now in
    let here = c.catch_up.new.front in
    let made = c.commit.result in
    let after = session_of c.commit.new.log c.commit.new.front in
    let changed = subst (λ (op : PlainOp). HasChanged (session_of c.args.log.now old) op made.place made.told after)
    c.in-Ok.ensures.ready.op_is
    (changed_since (session_of c.args.log.now here) after old c.in-Ok.ready.op made.place made.told
    (caught_up old here c.args.self.now.end (c.catch_up.ensures.whole, c.catch_up.ensures.began))
    c.commit.ensures.event.changed) in
    record {
      changed = changed;
      appended = grind (arith, common_steps, c.in-Ok.ensures.ready, c.commit.ensures.event.appended);
      whole = c.commit.ensures.event.whole;
    }
