use Rattle.std.proofs.lemmas.Grind.{common_steps}
use Rattle.std.proofs.Common.{◌≡◌, ◌<◌, ◌+◌, ℕ, true, false, [], length, take, get_or, arith, sym, ap, ◌∙◌, subst}
use Rattle.profile_rows.specs.Names.{is_same_name}
use Rattle.profile_rows.proofs.SameNames.{same_from_is_same_name, is_same_name-self}
use Rattle.call_tree.specs.State.{name_at, stack_at}
use Rattle.call_tree.specs.Shape.{at, node_rows}
use Rattle.std.proofs.lemmas.List.{get_or_read}
use Rattle.std.proofs.Math.Seq.{take-length}
use Rattle.call_tree.specs.Nodes.{linked, nodes_of, without_weight}
use Rattle.call_tree.proofs.Trees.{length-seen, seen}
use Rattle.call_tree.proofs.Finding.{IsFound, IsFound-start, IsFound-matched, IsFound-passed}
use Rattle.call_tree.proofs.tree.CallTree.slot_of.Goals as goal
use Rattle.call_tree.proofs.tree.CallTree.slot_of.Goals.{then-link-slot+then-eq, else-link-slot}
use Rattle.call_tree.proofs.tree.CallTree.slot_of.Goals.{else-link-slot-via-then-link-slot+else-eq}
use Rattle.call_tree.proofs.tree.CallTree.slot_of.Goals.{else-link-slot-via-else-link-slot, else-loop-index-test}
use Rattle.call_tree.proofs.tree.CallTree.slot_of.Goals.{then-loop-index-test+then-depth-frames}

pub loop-index-init : goal.loop-index-init
loop-index-init c = IsFound-start _ _ _ (c.self.invariant.0 0 (omega (arith, c.facts.ensures.some)))

pub loop-index-preserved : goal.loop-index-preserved
loop-index-preserved c =
    let names = c.self.inside.names in
    let nodes = nodes_of c.self.inside.nodes 0 in
    let tree = c.self.invariant.0 0 (omega (arith, c.facts.ensures.some)) in
    let frames = c.names-frames.result.now in
    let node_is : linked c.link-link.result 0 ≡ without_weight (at nodes c.loop-index.index) = c.link-link.ensures in
    let name_lt : c.link-link.result.name < length names =
    omega (arith, (tree.links c.loop-index.index (omega arith) (omega arith)).1, ap (λ node. node.name) node_is) in
    elim c.if-link-slot.branch [
      | then-link-slot+then-eq w ↦
          let name : w.read.result.now ≡ name_at names c.link-link.result.name =
          get_or_read names c.link-link.result.name w.read.result.now name_lt w.read.ensures [] in
          let frame : w.index-frames-depth.result ≡ get_or frames c.loop-index.depth [] = get_or_read
          frames c.loop-index.depth w.index-frames-depth.result (omega arith) w.index-frames-depth.is [] in
          let same : w.read.result.now ≡ w.index-frames-depth.result =
          same_from_is_same_name _ _ (sym w.eq.ensures ∙ w.if-eq.true) in
          let next = IsFound-matched names nodes frames c.loop-index.index c.loop-index.slot
          c.loop-index.depth tree c.loop-index.invariant (omega arith) (omega arith) (omega arith)
          (sym (ap (λ node. node.parent) node_is) ∙ w.if-link-slot.true)
          (sym (ap (λ node. name_at names node.name) node_is) ∙ sym name ∙ same ∙ frame) in
          subst (λ (p : ℕ × ℕ). IsFound names nodes frames (c.loop-index.index + 1) p.0 p.1)
          (λ i. (sym w.slot-is i, sym w.depth-is i)) next
      | else-link-slot w ↦
          let next = IsFound-passed names nodes frames c.loop-index.index
          c.loop-index.slot c.loop-index.depth tree c.loop-index.invariant (omega arith) (omega arith)
          (λ parent deep named. elim w.else-link-slot.branch [
            | else-link-slot-via-then-link-slot+else-eq w2 ↦
                let name : w2.read.result.now ≡ name_at names c.link-link.result.name =
                get_or_read names c.link-link.result.name w2.read.result.now name_lt w2.read.ensures [] in
                let frame : w2.index-frames-depth.result ≡ get_or frames c.loop-index.depth [] = get_or_read
                frames c.loop-index.depth w2.index-frames-depth.result (omega arith) w2.index-frames-depth.is [] in
                let same : w2.read.result.now ≡ w2.index-frames-depth.result = name
                ∙ ap (λ node. name_at names node.name) node_is ∙ named ∙ sym frame in
                let yes : is_same_name w2.read.result.now w2.index-frames-depth.result ≡ true =
                ap (is_same_name w2.read.result.now) (sym same) ∙ is_same_name-self w2.read.result.now in
                let no : is_same_name w2.read.result.now w2.index-frames-depth.result ≡ false = sym w2.eq.ensures
                ∙ w2.if-eq.false in
                cc
            | else-link-slot-via-else-link-slot w2 ↦ w2.if-link-slot.false
                (ap (λ node. node.parent) node_is ∙ parent)
          ]) in
          subst (λ (p : ℕ × ℕ). IsFound names nodes frames (c.loop-index.index + 1) p.0 p.1)
          (λ i. (sym w.slot-is i, sym w.depth-is i)) next
    ]

pub returns-then-depth-frames-2 : goal.returns-then-depth-frames-2
returns-then-depth-frames-2 c = grind (arith, common_steps, take-length, length-seen, seen)

pub returns-else-depth-frames-2 : goal.returns-else-depth-frames-2
returns-else-depth-frames-2 c =
    let names = c.self.inside.names in
    let all = c.self.inside.nodes in
    let frames = c.names-frames.result.now in
    elim c.loop-index-test.branch [
      | else-loop-index-test w ↦ λ k lt e.
          let in_nodes : k < length (nodes_of all 0) =
          omega (arith, lt, length-seen names all c.args.self.now 0 c.self.view_is) in
          let whole : stack_at (node_rows names (nodes_of all 0)) k ≡ take (length frames) frames =
          ap (λ rows. stack_at rows k) (seen names all c.args.self.now 0 c.self.view_is)
          ∙ e ∙ sym c.names-frames.ensures.names ∙ sym (take-length frames) in
          let le = c.loop-index.invariant.longest k (length frames) (omega (
            arith,
            in_nodes,
            w.loop-index-test.false,
            c.loop-index.auto.index-end,
            c.len-index-end.ensures,
          )) (omega arith) whole in
          let deep = c.loop-index.invariant.deep in
          c.if-depth-frames-2.false (omega (arith, le, deep))
      | then-loop-index-test+then-depth-frames w ↦ absurd (c.if-depth-frames-2.false w.if-depth-frames.true)
    ]
