use Rattle.std.proofs.lemmas.Result.{MatchResult-weaker}
use Rattle.op_book.specs.Changes.{change_op}
use Rattle.live_store.specs.Changes.{session_of}
use Rattle.live_store.specs.Sessions.{IsBorneOut}
use Rattle.live_store.proofs.Knowing.{borne_either, is_change-change_op}
use Rattle.live_store.proofs.session.Session.change.Goals as goal

pub invariant_of-self-2 : goal.invariant_of-self-2
invariant_of-self-2 g c =
    let s = c.self.inside in
    let log = c.make_room.new.self in
    let made = c.change-made in
    let known : IsBorneOut log.number log.receipts.items s.front =
    rw (c.make_room.ensures.number, c.make_room.ensures.same) c.self.invariant.1 in
    let either = borne_either made.result (λ p. p.place) (λ p. p.told) g.N.StoreName.limit
    g.N.StoreName.sessions g.N.StoreName.width (session_of log s.front)
    (session_of made.new.log made.new.front) (change_op c.args.change)
    (is_change-change_op c.args.change) (MatchResult-weaker made.result made.ensures.event
    (λ placing event. event.changed) (λ fault none. none.refused)) known in
    (rw (either.0, c.make_room.ensures.number) c.self.invariant.0, either.1)

pub returns : goal.returns
returns g c =
    let s = c.self.inside in
    let log = c.make_room.new.self in
    let made = c.change-made in
    let known : IsBorneOut log.number log.receipts.items s.front =
    rw (c.make_room.ensures.number, c.make_room.ensures.same) c.self.invariant.1 in
    let either = borne_either made.result (λ p. p.place) (λ p. p.told) g.N.StoreName.limit
    g.N.StoreName.sessions g.N.StoreName.width (session_of log s.front)
    (session_of made.new.log made.new.front) (change_op c.args.change)
    (is_change-change_op c.args.change) (MatchResult-weaker made.result made.ensures.event
    (λ placing event. event.changed) (λ fault none. none.refused)) known in
    rw (← c.self.view_is, ← c.make_room.ensures.number, ← c.make_room.ensures.same) either.2
