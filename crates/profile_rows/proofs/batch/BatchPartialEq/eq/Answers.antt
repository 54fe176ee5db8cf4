-- Batches are compared by their parts.
use Rattle.std.proofs.Common.{arith, rules, ◌≡◌, ◌&&◌, sym, ap, ◌∙◌, length}
use Rattle.std.specs.Cmp.Lexicographic.{pointwise}
use Rattle.std.specs.Prelude.{◌==◌}
use Rattle.profile_rows.specs.Equality.{row_eq}
use Rattle.profile_rows.proofs.EqualRows.{parts_compare, parts_decide, parts_eq}
use Rattle.profile_rows.proofs.batch.BatchPartialEq.eq.Goals.{then-eq, else-eq}
use Rattle.profile_rows.proofs.batch.BatchPartialEq.eq.Goals as goal

-- the widths, and the stacks with their first values
first_is : (c : goal.After-eq-then-eq-2) → c.if-eq.value ≡ ((length c.self.inside.totals ==
    length c.other.inside.totals) && pointwise row_eq c.self.inside.first c.other.inside.first)
first_is c = grind (arith, then-eq, else-eq)

others_are : (c : goal.After-eq-then-eq-2) → c.eq-then-eq-2.result ≡ parts_eq c.self.inside.totals c.self.inside.first
    c.self.inside.others.items c.other.inside.totals c.other.inside.first c.other.inside.others.items
others_are c = grind (arith, first_is)

pub returns-then-eq-2-clause-compared : goal.returns-then-eq-2-clause-compared
returns-then-eq-2-clause-compared c = search (rules, parts_compare, others_are)

pub returns-then-eq-2-clause-equal : goal.returns-then-eq-2-clause-equal
returns-then-eq-2-clause-equal c =
    let decided = parts_decide c.self.inside.totals c.self.inside.first
    c.self.inside.others.items c.other.inside.totals c.other.inside.first c.other.inside.others.items
    c.args.self.now c.args.other.now c.self.invariant c.other.invariant c.self.view_is c.other.view_is in
    (λ e. decided.0 (sym (others_are c) ∙ e), λ same. others_are c ∙ decided.1 same)

-- where they differ, the batches do
first_differs : (c : goal.Else-eq-2) → c.if-eq.value ≡ ((length c.self.inside.totals == length c.other.inside.totals)
    && pointwise row_eq c.self.inside.first c.other.inside.first)
first_differs c = grind (arith, then-eq, else-eq)

parts_differ : (c : goal.Else-eq-2) → c.if-eq.value ≡ parts_eq c.self.inside.totals c.self.inside.first
    c.self.inside.others.items c.other.inside.totals c.other.inside.first c.other.inside.others.items
parts_differ c = c.if-eq-2.false ∙ ap (λ b. b && pointwise ◌==◌ c.self.inside.others.items c.other.inside.others.items)
    (sym c.if-eq-2.false ∙ first_differs c)

pub returns-else-eq-2-clause-compared : goal.returns-else-eq-2-clause-compared
returns-else-eq-2-clause-compared c = search (rules, parts_compare, parts_differ)

pub returns-else-eq-2-clause-equal : goal.returns-else-eq-2-clause-equal
returns-else-eq-2-clause-equal c =
    let decided = parts_decide c.self.inside.totals c.self.inside.first
    c.self.inside.others.items c.other.inside.totals c.other.inside.first c.other.inside.others.items
    c.args.self.now c.args.other.now c.self.invariant c.other.invariant c.self.view_is c.other.view_is in
    (λ e. decided.0 (sym (parts_differ c) ∙ e), λ same. parts_differ c ∙ decided.1 same)
