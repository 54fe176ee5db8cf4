use Rattle.std.proofs.lemmas.Result.{MatchResult-weaker}
use Rattle.std.proofs.Common.{arith}
use Rattle.call_tree.proofs.Raising.{finished, weight_fits}
use Rattle.call_tree.proofs.Trees.{AreTreesBut-raised}
use Rattle.call_tree.proofs.tree.add_weight.Goals as goal

pub overflow_add-own : goal.overflow_add-own
overflow_add-own c =
    let fits = weight_fits _ _ _ _ c.weight.result c.requires.within c.requires.fits c.weight.ensures in
    omega (arith, fits)

pub returns : goal.returns
returns c =
    MatchResult-weaker c.put_weight.result c.put_weight.ensures
    (λ _ put.
    let done = finished _ _ _ _ _ c.weight.result (c.requires.trees c.args.value c.requires.value) c.requires.within
    c.requires.fits c.weight.ensures put.here in (
      AreTreesBut-raised c.args.names.now c.args.nodes.now c.put_weight.new.self c.args.value c.requires.trees
          put.width done.tree put.others,
      done.rows,
    ))
    (λ _ same. same)
