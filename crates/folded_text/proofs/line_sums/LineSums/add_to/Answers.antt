-- A row weighs more, and no text changes.
use Rattle.std.proofs.lemmas.Grind.{common_steps}
use Rattle.std.proofs.Common.{◌<◌, ◌+◌, ◌^◌, arith}
use Rattle.folded_text.proofs.KeptTexts.{AreKeptTexts-added, spelled-set, value-within}
use Rattle.folded_text.proofs.line_sums.LineSums.add_to.Goals as goal

pub overflow_add-index_mut : goal.overflow_add-index_mut
overflow_add-index_mut c =
    let fits : c.self.inside.total + c.args.weight < 2 ^ 63 =
    omega (arith, c.if-weight-self.false, c.self.invariant.fits) in
    let within = value-within c.self.inside.weights.entries c.args.at c.index_mut.result.now c.args.weight _
    (rw c.self.view_is c.requires) c.index_mut.ensures.value fits c.self.invariant in
    omega (arith, within, fits)

pub invariant_of-self : goal.invariant_of-self
invariant_of-self c =
    AreKeptTexts-added c.self.inside.weights.entries c.args.at c.index_mut.result.now c.args.weight _
    (rw c.self.view_is c.requires) c.index_mut.ensures.value
    (omega (arith, c.if-weight-self.false, c.self.invariant.fits)) c.self.invariant

pub returns-clause-added : goal.returns-clause-added
returns-clause-added c = record {
  added = rw (← c.self.view_is) (spelled-set c.self.inside.weights.entries c.args.at c.index_mut.result.now
      c.args.weight _ (rw c.self.view_is c.requires) c.index_mut.ensures.value
      (omega (arith, c.if-weight-self.false, c.self.invariant.fits)) c.self.invariant);
  fits = grind (arith, common_steps, c.if-weight-self.false);
}
