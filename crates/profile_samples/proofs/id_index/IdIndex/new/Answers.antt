-- Each id gets its index.
use Rattle.std.proofs.Common.{◌≡◌, Some, ap, arith, length, slice_index_or, subst, sym}
use Rattle.std.specs.Prelude.{◌==◌, slice_get}
use Rattle.std.specs.HashMap as hash
use Rattle.std.proofs.lemmas.Option.{slice_get-get_or}
use Rattle.profile_samples.specs.IdIndex.{AreIdIndices, index_found}
use Rattle.profile_samples.proofs.IdIndex.{indices_all, indices_more}
use Rattle.profile_samples.proofs.id_index.IdIndex.new.Goals as goal

pub loop-at-preserved : goal.loop-at-preserved
loop-at-preserved c =
    let ids = c.args.ids.items in
    let id = slice_index_or c.deref-id-items.result.now c.loop-at.at 0 in
    let stands : slice_get ids c.loop-at.at ≡ Some id = rw (← c.deref-id-items.ensures.value)
    (slice_get-get_or c.deref-id-items.result.now c.loop-at.at 0 c.loop-at-test.true) in
    indices_more ids _ _ c.loop-at.at id stands c.in_ok-put.ensures c.loop-at.invariant

pub invariant_of-result : goal.invariant_of-result
invariant_of-result c =
    let past = c.loop-at-test.false in
    let count = ap length c.deref-id-items.ensures.value in
    let find = index_found c.loop-at.near (hash.get ◌==◌ c.loop-at.far) in
    subst (λ ids. AreIdIndices ids find) (ap (λ ids. ids.items) (sym c.of.ensures))
    (indices_all c.args.ids.items find c.loop-at.at (omega (arith, past, count)) c.loop-at.invariant)
