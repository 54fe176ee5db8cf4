use Rattle.std.proofs.Common.{arith, ap, ◌∙◌}
use Rattle.shared_pages.specs.Pages.{with_item}
use Rattle.shared_pages.proofs.Parts.{in_part_le, put_part, push_part}
use Rattle.shared_pages.proofs.table.TableGrowingPart.put.Goals as goal

pub put_in_part-requires-clause-within : goal.put_in_part-requires-clause-within
put_in_part-requires-clause-within g c =
    in_part_le c.self.invariant c.self.view_is c.place-index.ensures c.args.item c.requires.within
    (omega (arith, c.if-index-len.true, c.len.ensures, c.self.inside.parts.ok.0)) c.index_mut.ensures.value

pub invariant_of-self : goal.invariant_of-self
invariant_of-self g c =
    (put_part c.self.invariant c.self.view_is c.place-index.ensures c.args.item c.requires.within
    (omega (arith, c.if-index-len.true, c.len.ensures, c.self.inside.parts.ok.0)) c.index_mut.ensures.value
    c.put_in_part.new.part c.put_in_part.result c.put_in_part.ensures).0

pub returns-then-index-len : goal.returns-then-index-len
returns-then-index-len g c =
    (put_part c.self.invariant c.self.view_is c.place-index.ensures c.args.item c.requires.within
    (omega (arith, c.if-index-len.true, c.len.ensures, c.self.inside.parts.ok.0)) c.index_mut.ensures.value
    c.put_in_part.new.part c.put_in_part.result c.put_in_part.ensures).1

pub invariant_of-self-2 : goal.invariant_of-self-2
invariant_of-self-2 g c =
    let part_is = ap g.P.Part.items c.in_ok-new.ensures.ok ∙ c.in_ok-put.ensures
    ∙ ap (with_item 0 c.args.item) c.in_ok-part.ensures in
    rw c.in_ok-push.ensures.items (push_part c.self.invariant c.self.view_is c.place-index.ensures c.args.item
    c.requires.within c.in_ok-new.field-0
    (omega (arith, c.if-index-len.false, c.len.ensures, c.self.inside.parts.ok.0)) part_is).0

pub returns : goal.returns
returns g c =
    let part_is = ap g.P.Part.items c.in_ok-new.ensures.ok ∙ c.in_ok-put.ensures
    ∙ ap (with_item 0 c.args.item) c.in_ok-part.ensures in
    rw c.in_ok-push.ensures.items (push_part c.self.invariant c.self.view_is c.place-index.ensures c.args.item
    c.requires.within c.in_ok-new.field-0
    (omega (arith, c.if-index-len.false, c.len.ensures, c.self.inside.parts.ok.0)) part_is).1
