-- The stack text leads to the new row.
use Rattle.std.proofs.Common.{arith, ◌≡◌, true, sym, ◌∙◌}
use Rattle.ordered_rows.specs.StackOrder.{IsJoined}
use Rattle.folded_text.proofs.TextRows.{AreKnownTexts-push}
use Rattle.folded_text.proofs.text_rows.TextRows.add.Goals.{then-self, else-self}
use Rattle.folded_text.proofs.text_rows.TextRows.add.Goals as goal

pub invariant_of-self-2 : goal.invariant_of-self-2
invariant_of-self-2 c =
    let joins : c.if-self.self ≡ true → (c.self.inside.are_joined ≡ true) × IsJoined c.args.text.now =
    λ e. elim c.if-self.branch [
      | then-self w ↦ (w.if-self.true, c.requires.joined (sym w.self-is ∙ e))
      | else-self w ↦ let clash = sym w.self-is ∙ e in cc
    ] in
    AreKnownTexts-push _ _ _ _ (record { text = c.args.text.now; weight = c.args.weight }) _ _ _ c.in-Ok.ensures.texts
    (rw c.new.ensures at c.in_ok-push.ensures.items) (rw c.self.view_is c.requires.new_text) c.requires.spelled
    (omega (arith, c.if-weight-eq0.false)) (rw (c.self.invariant.total_is, c.self.view_is) c.requires.fits)
    joins c.self.invariant
