use Rattle.std.proofs.Common.{◌≡◌, ◌<◌, [], length, not, get_or, arith, ap, ◌∙◌, subst}
use Rattle.std.proofs.lemmas.List.{get_or_read}
use Rattle.call_tree.specs.State.{AreStates, plain_at}
use Rattle.call_tree.proofs.Indexing.{if_ok_more}
use Rattle.call_tree.proofs.Paths.{IsOnPath-step, there_is}
use Rattle.call_tree.proofs.grower.Grower.look_up.Goals as goal

pub child-requires-clause-counts : goal.child-requires-clause-counts
child-requires-clause-counts c =
    let frames = c.args.frames.now in
    let frame : c.index-frames-depth.result ≡ get_or frames c.args.depth [] =
    get_or_read frames c.args.depth c.index-frames-depth.result c.requires.within c.index-frames-depth.is [] in
    let states = subst AreStates (c.deref.ensures ∙ c.self.view_is) c.facts.ensures in
    let state = states.each 0 states.some in
    let grown = c.in_ok-number.ensures.names.grown in
    let some : 0 < length c.args.self.now.values = omega (arith, grown.count, states.some, states.width) in
    let nodes = ap (λ values. get_or values 0 []) c.in_ok-number.ensures.names.values in
    ap not (c.in_ok-there.ensures.there ∙ there_is (plain_at c.args.self.now 0)
    (plain_at c.intern.new.self 0) c.args.walk.now frames c.args.depth c.args.slot c.in_ok-number.number
    c.requires.within c.requires.path
    (grown.each 0 some) nodes c.in_ok-number.ensures.number.0 (c.in_ok-number.ensures.number.1 ∙ frame) state)

pub returns-clause-path : goal.returns-clause-path
returns-clause-path c =
    let frames = c.args.frames.now in
    let frame : c.index-frames-depth.result ≡ get_or frames c.args.depth [] =
    get_or_read frames c.args.depth c.index-frames-depth.result c.requires.within c.index-frames-depth.is [] in
    let states = subst AreStates (c.deref.ensures ∙ c.self.view_is) c.facts.ensures in
    let state = states.each 0 states.some in
    let grown = c.in_ok-number.ensures.names.grown in
    let some : 0 < length c.args.self.now.values = omega (arith, grown.count, states.some, states.width) in
    let nodes = ap (λ values. get_or values 0 []) c.in_ok-number.ensures.names.values in
    if_ok_more c.child.result _ _
    (λ slot child. IsOnPath-step (plain_at c.args.self.now 0)
    (plain_at c.intern.new.self 0) c.args.walk.now frames c.args.depth c.args.slot c.in_ok-number.number
    c.requires.within c.requires.path
    (grown.each 0 some) nodes c.in_ok-number.ensures.number.0 (c.in_ok-number.ensures.number.1 ∙ frame) state
    (plain_at c.child.new.self 0) c.in_ok-there.there
    c.add.new.self slot c.in_ok-there.ensures.there c.in_ok-there.ensures.ok
    c.child.ensures.nodes.names child.within child.stack)
    c.child.ensures.child
