-- A list with these bytes is spelled by them.
use Rattle.std.proofs.Common.{Bool, true, false, ◌≡◌, ◌∙◌, ap, arith, refl, sym}
use Rattle.std.specs.Bool.{OnTrue}
use Rattle.std.proofs.lemmas.Slice.Eq.{bytes_eq-Decides}
use Rattle.basics.specs.Spans.{items_at}
use Rattle.pprof_profile.proofs.LocationLists.{spelled_so}
use Rattle.pprof_profile.proofs.location_lists.LocationLists.is_spelled.Goals as goal

on_true : {P : Type 0} (b : Bool) → (b ≡ true → P) → OnTrue b P
on_true true p = p refl
on_true false p = tt

pub returns-then-number-len : goal.returns-then-number-len
returns-then-number-len c = on_true c.eq.result (λ yes.
    let bytes = c.of.ensures ∙ ap (λ all. items_at all c.index.result.now.spelling) c.as_slice.ensures.value in
    let same = sym bytes ∙ (bytes_eq-Decides c.of.result.now c.args.spelling.now).0 (sym c.eq.ensures ∙ yes) in
    let before = c.if-number-len.true in
    let count = c.len.ensures in
    rw (← c.self.view_is) (spelled_so c.self.inside.ids.items c.self.inside.bytes.items c.self.inside.lists.items
    c.args.number c.index.result.now c.args.spelling.now c.self.invariant (omega (arith, before, count))
    c.index.ensures same c.requires))
