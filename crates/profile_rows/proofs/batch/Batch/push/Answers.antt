-- A row more: its first value goes with its stack, the others after those of the rows before.
use Rattle.std.proofs.Common.{arith, ◌≡◌, ℕ, [], ◌∷◌, ◌++◌, ap, sym, ◌∙◌, length, drop, subst}
use Rattle.profile_rows.specs.Values.{AreParts, BatchState, HasRoom, batch_with, value_of}
use Rattle.profile_rows.proofs.RowValues.{batch_with-push, pushed-AreParts}
use Rattle.profile_rows.proofs.batch.Batch.push.Goals as goal

width_is : (c : goal.After-self-1) → length c.args.weights ≡ length c.self.inside.totals
width_is c = c.in_default.ensures.width ∙ ap (λ (b : BatchState). b.width) (sym c.self.view_is)

has_room : (c : goal.After-self-1) (value : ℕ)
    → HasRoom (batch_with c.self.inside.totals c.self.inside.first c.self.inside.others.items) c.args.weights value
has_room c value = subst (λ b. HasRoom b c.args.weights value) (sym c.self.view_is) (c.in_default.ensures.room value)

rows_are : (c : goal.After-self-1) → c.push.new.self
    ≡ c.self.inside.first ++ (record { stack = c.args.stack; weight = value_of 0 c.args.weights }) ∷ []
rows_are c = c.in-Ok.ensures.pushed
    ∙ ap (λ w. c.self.inside.first ++ (record { stack = c.args.stack; weight = w }) ∷ []) c.value.ensures

values_are : (c : goal.After-self-1)
    → c.extend_from_slice.new.self.items ≡ c.self.inside.others.items ++ drop 1 c.args.weights
values_are c = c.in_default-extend_from_slice.ensures.items ∙ ap (λ l. c.self.inside.others.items ++ l) c.rest.ensures

pub invariant_of-self-in-Ok : goal.invariant_of-self-in-Ok
invariant_of-self-in-Ok c =
    let totals = c.self.inside.totals in
    let parts = c.self.invariant in
    let kept = pushed-AreParts totals c.self.inside.first
    c.self.inside.others.items parts.0 parts.1 parts.2 c.args.stack c.args.weights (width_is c) (has_room c)
    c.plus-self-inside.result c.plus-self-inside.ensures.width c.plus-self-inside.ensures.each in
    subst (λ rows. AreParts c.plus-self-inside.result rows c.extend_from_slice.new.self.items) (sym (rows_are c))
    (subst (AreParts c.plus-self-inside.result _) (sym (values_are c)) kept)

pub returns-in-Ok-clause-pushed : goal.returns-in-Ok-clause-pushed
returns-in-Ok-clause-pushed c = grind (arith, batch_with-push, width_is, has_room, rows_are, values_are)
