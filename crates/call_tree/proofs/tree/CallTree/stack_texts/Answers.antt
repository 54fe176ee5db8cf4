use Rattle.std.proofs.Common.{◌≡◌, ◌<◌, filter, length, arith, refl, sym, ap, ◌∙◌, subst}
use Rattle.std.proofs.lemmas.List.{take_all}
use Rattle.call_tree.specs.State.{has_weight, nodes_at, plain_at, stack_at}
use Rattle.call_tree.proofs.Texts.{AreSpelled, AreStackTexts-nodes, text_less, text_more}
use Rattle.call_tree.proofs.tree.CallTree.stack_texts.Goals as goal
use Rattle.call_tree.proofs.tree.CallTree.stack_texts.Goals.{then-weight-gt0+in_ok-text+in_ok-push, else-weight-gt0}
use Rattle.profile_rows.specs.Names.{IsName}
use Rattle.std.specs.List.{All, join_with_byte}

pub loop-at-preserved : goal.loop-at-preserved
loop-at-preserved c =
    let rows = nodes_at c.args.self.now c.args.value in
    let k = c.loop-at.at in
    let size = c.facts.ensures.sizes c.args.value c.requires in
    let lt : k < length rows = omega (arith, size, c.loop-at-test.true, c.len-at-end.ensures) in
    let stack : stack_at (nodes_at c.args.self.now 0) k ≡ stack_at rows k =
    sym (c.facts.ensures.stacks c.args.value k c.requires) in
    elim c.if-weight-gt0.branch [
      | then-weight-gt0+in_ok-text+in_ok-push w ↦
          text_more rows c.loop-at.texts.items c.if-weight-gt0.texts.items k c.weight-weight.result lt
          c.weight-weight.ensures c.loop-at.invariant w.if-weight-gt0.true
          (record { text = w.in_ok-text.text; weight = c.weight-weight.result }) refl
          (w.in_ok-text.ensures.text ∙ ap (λ names. join_with_byte 59 names) stack)
          (subst (All IsName) stack w.in_ok-text.ensures.names)
          (ap (λ texts. texts.items) w.texts-is ∙ w.in_ok-push.ensures.items)
      | else-weight-gt0 w ↦
          text_less rows c.loop-at.texts.items c.if-weight-gt0.texts.items k c.weight-weight.result lt
          c.weight-weight.ensures c.loop-at.invariant (omega (arith, w.if-weight-gt0.false))
          (ap (λ texts. texts.items) w.texts-is)
    ]

pub returns : goal.returns
returns c =
    let nodes = nodes_at c.args.self.now c.args.value in
    let size = c.facts.ensures.sizes c.args.value c.requires in
    AreStackTexts-nodes
    (plain_at c.args.self.now c.args.value) c.loop-at.texts.items (c.facts.ensures.each c.args.value c.requires)
    (subst (λ nodes. AreSpelled (filter has_weight nodes) c.loop-at.texts.items) (take_all c.loop-at.at nodes
    (omega (arith, size, c.loop-at-test.false, c.len-at-end.ensures))) c.loop-at.invariant)
