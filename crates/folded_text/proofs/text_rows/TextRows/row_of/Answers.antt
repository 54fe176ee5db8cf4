-- A text's number is the index of its row.
use Rattle.std.proofs.Common.{arith, ◌<◌, ◌≤◌, [], length}
use Rattle.folded_text.proofs.TextRows.{none_found, row_found}
use Rattle.folded_text.proofs.text_rows.TextRows.row_of.Goals as goal

pub returns-then-at-len : goal.returns-then-at-len
returns-then-at-len c =
    let lt : c.number_of-at.result < length c.self.inside.rows.items = omega arith in
    rw (← c.self.view_is) (row_found _ _ _ _ c.self.invariant c.args.text.now _ c.number_of-at.ensures.number
    (record { text = []; weight = 0 }) lt)

pub returns-else-at-len : goal.returns-else-at-len
returns-else-at-len c =
    let end : length c.self.inside.rows.items ≤ c.number_of-at.result = omega arith in
    rw (← c.self.view_is) (none_found _ _ _ _ c.self.invariant c.args.text.now _ c.number_of-at.ensures.number end)
