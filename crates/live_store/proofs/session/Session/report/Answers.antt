use Rattle.std.proofs.Common.{List, ◌≡◌, [], ◌∷◌, ◌++◌, sym, ap, ◌∙◌}
use Rattle.std.specs.Arc.{arc_value}
use Rattle.op_book.specs.Books.{receipt_after}
use Rattle.op_book.specs.Operations.{PlainEntry, ask}
use Rattle.live_store.specs.Sessions.{IsBorneOut}
use Rattle.live_store.proofs.Knowing.{borne_asked, borne_more, caught_up}
use Rattle.live_store.proofs.session.Session.report.Goals as goal

pub invariant_of-self-2 : goal.invariant_of-self-2
invariant_of-self-2 g c =
    let s = c.self.inside in
    let n = s.log.number in
    let log = s.log.receipts.items in
    let seen = c.catch_up.new.self in
    let q = arc_value c.args.query.now in
    let caught = c.if-not-catch_up.ensures in
    let more : IsBorneOut n log seen = borne_more n log s.front seen
    (caught_up s.front seen c.in-Ok.made.front caught) c.self.invariant.1 in
    let receipt = c.in-Ok.ensures ∙ ap (λ (l : List PlainEntry). receipt_after l (ask q)) (sym caught.0) in
    let items : c.keep_report.new.self.receipts.items ≡ log ++ receipt_after seen (ask q) ∷ [] =
    c.keep_report.ensures.log
    ∙ (ap (λ l. l ++ c.in-Ok.made.receipt ∷ []) c.make_room.ensures.same ∙ ap (λ r. log ++ r ∷ []) receipt) in
    let number : c.keep_report.new.self.number ≡ n = c.keep_report.ensures.number ∙ c.make_room.ensures.number in
    rw (number, items) (c.self.invariant.0, borne_asked n log seen q more)
