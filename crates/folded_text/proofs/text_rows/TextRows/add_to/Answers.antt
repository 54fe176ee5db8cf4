-- A row weighs more, and no text changes.
use Rattle.std.proofs.lemmas.Grind.{common_steps}
use Rattle.std.proofs.Common.{◌<◌, length, arith}
use Rattle.folded_text.proofs.TextRows.{AreKnownTexts-added, spelled-added, weight-within}
use Rattle.folded_text.proofs.text_rows.TextRows.add_to.Goals as goal

pub add-requires : goal.add-requires
add-requires c = grind (arith, common_steps, weight-within)

pub invariant_of-self : goal.invariant_of-self
invariant_of-self c =
    let lt : c.args.at < length c.self.inside.rows.items = rw c.self.view_is c.requires in
    rw c.add.ensures (AreKnownTexts-added _ _ c.args.weight _ lt c.index_mut.ensures.value _ _ _
    (omega (arith, c.self.invariant.fits, c.if-weight-self.false)) c.self.invariant)

pub returns : goal.returns
returns c = record {
  added = grind (arith, common_steps, spelled-added);
  fits = grind (arith, common_steps, c.if-weight-self.false);
}
