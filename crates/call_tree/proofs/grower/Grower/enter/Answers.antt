use Rattle.std.proofs.Common.{◌≡◌, [], get_or, refl, sym, ap, ◌∙◌, subst}
use Rattle.std.proofs.lemmas.List.{get_or_read}
use Rattle.call_tree.specs.State.{TreeState, AreStates, IsChild, name_at, plain_at}
use Rattle.call_tree.proofs.Indexing.{IsGrown-refl}
use Rattle.call_tree.proofs.Paths.{IsOnPath-step}
use Rattle.call_tree.proofs.grower.Grower.enter.Goals as goal

pub returns-in-Some-clause-path : goal.returns-in-Some-clause-path
returns-in-Some-clause-path c =
    let tree = plain_at c.args.self.now 0 in
    let states = subst AreStates (c.deref.ensures ∙ c.self.view_is) c.facts.ensures in
    let seen = c.deref-2.ensures ∙ c.self.view_is in
    let frames = c.args.frames.now in
    let number = c.in-Some.number in
    let frame : c.index-frames-depth.result ≡ get_or frames c.args.depth [] =
    get_or_read frames c.args.depth c.index-frames-depth.result c.requires.within c.index-frames-depth.is [] in
    let child = subst (λ (t : TreeState). IsChild (plain_at t 0) c.args.slot number c.guess-guess.result)
    seen c.in-Some.ensures.0 in
    let name : name_at tree.names number ≡ c.index-frames-depth.result =
    ap (λ (t : TreeState). name_at t.names number) (sym seen) ∙ c.in-Some.ensures.1 in
    IsOnPath-step tree tree c.args.walk.now frames c.args.depth c.args.slot number
    c.requires.within c.requires.path (IsGrown-refl tree) refl child.name_lt (name ∙ frame) (states.each 0 states.some)
    tree c.in_ok-_there._there c.add.new.self
    c.guess-guess.result c.in_ok-_there.ensures.there c.in_ok-_there.ensures.ok refl child.child_lt child.stack
