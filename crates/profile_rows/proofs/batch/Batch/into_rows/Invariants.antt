use Rattle.std.proofs.Common.{◌≡◌, ◌+◌, ◌-◌, ◌*◌, ◌++◌, drop, length, map}
use Rattle.profile_rows.specs.OwnedRows.{plain_row}
use Rattle.profile_rows.specs.Values.{with_values}
use Rattle.profile_rows.proofs.batch.Batch.into_rows.Given as goal

-- the rows so far with those that are left are all, and each that is left has its other values
abbrev pub invariant-loop-row : goal.invariant-loop-row
invariant-loop-row l =
    (length l.others.items ≡ (length l.rows.items + length l.row-iterator.rest.items) * (l.width - 1))
    × (map plain_row l.rows.items ++ with_values (l.width - 1) l.row-iterator.rest.items
    (drop (length l.rows.items * (l.width - 1)) l.others.items) ≡ l.fn.self.rows)
