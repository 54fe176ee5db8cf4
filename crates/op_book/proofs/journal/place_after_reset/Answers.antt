-- One entry more.
use Rattle.std.proofs.Common.{◌+◌, cond, ap, sym, ◌∙◌}
use Rattle.op_book.specs.Operations.{PlainEntry, is_reset}
use Rattle.op_book.proofs.Counting.{counting_from-more}
use Rattle.op_book.proofs.journal.place_after_reset.Goals as goal
use Rattle.op_book.proofs.journal.place_after_reset.Goals.{then-is_reset, else-is_reset}

pub loop-place-preserved : goal.loop-place-preserved
loop-place-preserved c =
    let told = ap (λ (entry : PlainEntry). is_reset entry.op) (sym c.entry.view_is) ∙ sym c.is_reset.ensures in
    counting_from-more c.args.entries.now c.loop-place.place
    c.if-is_reset.after c.index-entries-place.result c.loop-place-test.true c.index-entries-place.is
    (elim c.if-is_reset.branch [
      | then-is_reset w ↦ w.after-is
          ∙ ap (λ b. cond b (c.loop-place.place + 1) c.loop-place.after) (sym (told ∙ w.if-is_reset.true))
      | else-is_reset w ↦ w.after-is
          ∙ ap (λ b. cond b (c.loop-place.place + 1) c.loop-place.after) (sym (told ∙ w.if-is_reset.false))
    ] ∙ ap (λ n. cond (is_reset c.index-entries-place.result.op) (c.loop-place.place + 1) n) c.loop-place.invariant)
