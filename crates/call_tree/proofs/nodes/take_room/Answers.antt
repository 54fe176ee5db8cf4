use Rattle.std.proofs.Common.{◌≡◌, ◌<◌, ◌+◌, ◌++◌, ◌∷◌, [], length, arith, sym, ap, ◌∙◌, subst}
use Rattle.std.proofs.Math.ListN.{set}
use Rattle.std.proofs.lemmas.List.{get_or_read, set-get_or}
use Rattle.call_tree.proofs.Weighing.{HaveRoom, HaveRoom-had, HaveRoom-made, table_of}
use Rattle.call_tree.proofs.nodes.take_room.Goals as goal
use Rattle.call_tree.proofs.nodes.take_room.Goals.{then-len-size+in_ok-append, else-len-size}

pub loop-index-preserved : goal.loop-index-preserved
loop-index-preserved c =
    let tables = c.loop-index.tables.items in
    let index = c.loop-index.index in
    let room = c.loop-index.invariant in
    let lt : index < length tables = omega (arith, c.loop-index-test.true, c.len-index-end.ensures, room.same.count) in
    let table_is : c.index_mut-table.result.now ≡ table_of tables index =
    get_or_read tables index c.index_mut-table.result.now lt c.index_mut-table.ensures.value [] in
    elim c.if-len-size.branch [
      | then-len-size+in_ok-append w ↦
          HaveRoom-made
          c.args.size c.args.tables.now.items tables index room lt c.if-len-size.tables.items w.append.new.self
          (ap length (sym table_is) ∙ sym c.len.ensures ∙ w.if-len-size.true)
          (w.in_ok-append.ensures ∙ ap (λ t. t ++ 0 ∷ []) table_is) (ap (λ v. v.items) w.tables-is)
      | else-len-size w ↦
          let long = room.same.kept.long index lt in
          let same = ap length table_is in
          let other : length c.index_mut-table.result.now ≡ c.args.size
          → ⊥ = λ e. w.if-len-size.false (c.len.ensures ∙ e) in
          let next : c.if-len-size.tables.items ≡ tables = ap (λ v. v.items) w.tables-is
          ∙ ap (set tables index) table_is ∙ set-get_or tables index [] in
          subst (λ ts. HaveRoom c.args.size c.args.tables.now.items ts (index + 1)) (sym next)
          (HaveRoom-had c.args.size c.args.tables.now.items tables index room lt (omega (arith, long, same, other)))
    ]
