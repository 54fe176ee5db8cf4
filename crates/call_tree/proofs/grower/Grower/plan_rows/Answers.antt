use Rattle.std.proofs.Common.{sym, ◌∙◌, subst}
use Rattle.call_tree.specs.State.{TreeState}
use Rattle.call_tree.specs.Plans.{AreCredited, HasAdded}
use Rattle.call_tree.proofs.Growing.{HasAdded-credited}
use Rattle.call_tree.proofs.grower.Grower.plan_rows.Goals as goal

pub returns-clause-planned : goal.returns-clause-planned
returns-clause-planned c =
    let batch = c.args.batch.now in
    let grown = c.slots_of.new.self in
    let next = c.in_ok-with_batch.field-0 in
    let more = c.in_ok-slots.ensures.grown in
    let credited = subst (λ (t : TreeState). AreCredited t next batch.rows t.width)
    (c.deref-2.ensures ∙ c.self.view_is) c.in_ok-with_batch.ensures in (
      c.of.ensures ∙ c.deref-3.ensures ∙ c.self.view_is,
      subst (λ (t : TreeState). HasAdded c.args.self.now t batch) (sym c.in_ok-next.ensures.ok)
          (HasAdded-credited c.args.self.now grown next batch grown.width more c.first.ensures.batch
          (c.requires.width ∙ sym more.width) credited),
    )
