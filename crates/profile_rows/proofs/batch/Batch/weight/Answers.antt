-- The first value stands with the stack, the others among the other values.
use Rattle.std.proofs.Common.{◌≡◌, suc, [], ap, sym, ◌∙◌, length, ◌-◌, ◌*◌, get_or, take, drop, arith}
use Rattle.profile_rows.specs.Values.{Row, row_in, value_of}
use Rattle.profile_rows.proofs.RowValues.{seen-length, seen-row}
use Rattle.profile_rows.proofs.batch.Batch.weight.Goals as goal

pub returns-then-value-eq0 : goal.returns-then-value-eq0
returns-then-value-eq0 c =
    let size = seen-length
    c.self.inside.totals c.self.inside.first c.self.inside.others.items c.args.self.now c.self.view_is in
    let lt = c.requires.row in
    let row = seen-row c.self.inside.totals c.self.inside.first
    c.self.inside.others.items c.args.self.now c.self.view_is c.args.at c.index-rows-at.result (omega arith) in
    ap (λ rows. (get_or rows c.args.at c.index-rows-at.result).weight) c.rows-rows.ensures.rows
    ∙ ap (λ (row : Row). value_of 0 row.weights) row
    ∙ ap (λ v. value_of v (row_in c.args.self.now.rows c.args.at).weights) (sym c.if-value-eq0.true)

pub returns : goal.returns
returns c =
    let size = seen-length
    c.self.inside.totals c.self.inside.first c.self.inside.others.items c.args.self.now c.self.view_is in
    let lt = c.requires.row in
    let row = seen-row c.self.inside.totals c.self.inside.first c.self.inside.others.items
    c.args.self.now c.self.view_is c.args.at (record { stack = []; weight = 0 }) (omega arith) in
    let some = c.if-value-eq0.false in
    let next : suc (c.args.value - 1) ≡ c.args.value = omega arith in
    let others : c.other_values-others.result.now ≡ take (length c.self.inside.totals - 1)
    (drop (c.args.at * (length c.self.inside.totals - 1)) c.self.inside.others.items) =
    c.other_values-others.ensures
    ∙ (λ i. take (c.width.ensures i - 1) (drop (c.args.at * (c.width.ensures i - 1)) (c.deref.ensures.value i))) in
    ap (λ l. get_or l (c.args.value - 1) 0) others
    ∙ ap (λ (row : Row). value_of (suc (c.args.value - 1)) row.weights) row
    ∙ ap (λ v. value_of v (row_in c.args.self.now.rows c.args.at).weights) next
