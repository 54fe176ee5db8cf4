use Rattle.std.proofs.Common.{◌≡◌, ℕ, ◌+◌, List, ◌∷◌, ◌++◌, map, take, drop, refl, arith}
use Rattle.std.proofs.lemmas.Grind.{common_steps}
use Rattle.std.proofs.lemmas.List.Folds.{list_any-append}
use Rattle.pprof_profile.proofs.KnownIds.{single_more, double_inside, ids_more, ids_inside}
use Rattle.pprof_profile.proofs.ids.unique_ids.Goals as goal

pub loop-item-preserved : goal.loop-item-preserved
loop-item-preserved g c = grind (arith, common_steps, list_any-append, single_more, ids_more)

pub returns-then-contains-clause-double : goal.returns-then-contains-clause-double
returns-then-contains-clause-double g c =
    let so-far : List ℕ = map g.T.HasId.id_of (take c.loop-item.item-index c.args.items.now) in
    let rest : List ℕ = map g.T.HasId.id_of (drop (c.loop-item.item-index + 1) c.args.items.now) in
    let all : map g.T.HasId.id_of c.args.items.now ≡ so-far ++ c.id-id.result ∷ rest =
    ids_inside g.T.HasId.id_of c.args.items.now
    c.loop-item.item-index c.item-item.result c.id-id.result c.loop-item-test.true c.item-item.is c.id-id.ensures in
    λ other. (
      refl,
      rw all (double_inside so-far rest c.id-id.result
          (grind (arith, c.loop-item.invariant.known c.id-id.result, c.contains.ensures, c.if-contains.true))),
    )
