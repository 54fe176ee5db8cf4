use Rattle.std.proofs.Common.{◌≡◌, sym, ap, ◌∙◌, subst}
use Rattle.std.specs.Arc.{arc_value}
use Rattle.std.specs.HashMap as hash
use Rattle.std.specs.Map.{lookup}
use Rattle.call_tree.specs.State.{TreeState, IsIndex, plain_at, same_key}
use Rattle.call_tree.specs.Plans.{IsNext}
use Rattle.call_tree.proofs.Indexing.{IsIndex-none}
use Rattle.call_tree.proofs.Planned.{IsIndex-credited}
use Rattle.call_tree.proofs.grower.Grower.credit.Goals as goal
use Rattle.call_tree.proofs.grower.Grower.credit.Goals.{then-resets, else-resets}

pub invariant_of-self : goal.invariant_of-self
invariant_of-self c =
    let next = (arc_value c.plan.inside.next) in
    elim c.if-resets.branch [
      | then-resets w ↦
          let root = subst (λ b. IsNext b c.plan.inside.before.value next) w.if-resets.true c.plan.invariant in
          let index = IsIndex-none (hash.get same_key w.clear-then-resets.new.self)
          (plain_at next 0) (λ key. ap (lookup (same_key key)) w.clear-then-resets.ensures.empty) root.names in (
            ap (λ s. s.numbers.keys) w.self-inside-is ∙ w.clear.ensures.empty ∙ sym root.names,
            subst (λ s. IsIndex (hash.get same_key s.index) (plain_at next 0)) (sym w.self-inside-is) index,
          )
      | else-resets w ↦
          let same = subst (λ b. IsNext b c.plan.inside.before.value next) w.if-resets.false c.plan.invariant in
          let before : c.plan.inside.before.value ≡ (arc_value c.self.inside.tree) = ap (λ p. p.before) c.plan.view_is
          ∙ c.requires ∙ sym c.self.view_is in
          let had = subst (λ (t : TreeState). IsIndex (hash.get same_key c.self.inside.index) (plain_at t 0))
          (sym before) c.self.invariant.1 in
          let index = IsIndex-credited (hash.get same_key c.self.inside.index)
          (plain_at c.plan.inside.before.value 0) (plain_at next 0) had same in (
            ap (λ s. s.numbers.keys) w.self-inside-is
                ∙ c.self.invariant.0 ∙ ap (λ t. t.names) (sym before) ∙ sym same.names,
            subst (λ s. IsIndex (hash.get same_key s.index) (plain_at next 0)) (sym w.self-inside-is) index,
          )
    ]
