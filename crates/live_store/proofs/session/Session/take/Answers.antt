use Rattle.std.proofs.Common.{refl}
use Rattle.std.proofs.lemmas.Result.{MatchResult-weaker}
use Rattle.op_book.specs.Operations.{reset}
use Rattle.live_store.specs.Changes.{session_of}
use Rattle.live_store.specs.Sessions.{IsBorneOut}
use Rattle.live_store.proofs.Knowing.{borne_either}
use Rattle.live_store.proofs.session.Session.take.Goals as goal

pub invariant_of-self-2 : goal.invariant_of-self-2
invariant_of-self-2 g c =
    let s = c.self.inside in
    let log = c.make_room.new.self in
    let made = c.take-taken in
    let known : IsBorneOut log.number log.receipts.items s.front =
    rw (c.make_room.ensures.number, c.make_room.ensures.same) c.self.invariant.1 in
    let either = borne_either made.result (λ w. w.placed.place) (λ w. w.placed.told) g.N.StoreName.limit
    g.N.StoreName.sessions g.N.StoreName.width (session_of log s.front)
    (session_of made.new.log made.new.front) reset refl (MatchResult-weaker made.result made.ensures.event
    (λ window event. event.changed) (λ fault refused. refused)) known in
    (rw (either.0, c.make_room.ensures.number) c.self.invariant.0, either.1)

pub returns-clause-changed : goal.returns-clause-changed
returns-clause-changed g c =
    let s = c.self.inside in
    let log = c.make_room.new.self in
    let made = c.take-taken in
    let known : IsBorneOut log.number log.receipts.items s.front =
    rw (c.make_room.ensures.number, c.make_room.ensures.same) c.self.invariant.1 in
    let either = borne_either made.result (λ w. w.placed.place) (λ w. w.placed.told) g.N.StoreName.limit
    g.N.StoreName.sessions g.N.StoreName.width (session_of log s.front)
    (session_of made.new.log made.new.front) reset refl (MatchResult-weaker made.result made.ensures.event
    (λ window event. event.changed) (λ fault refused. refused)) known in
    rw (← c.self.view_is, ← c.make_room.ensures.number, ← c.make_room.ensures.same) either.2
