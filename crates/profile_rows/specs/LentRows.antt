-- Rows of a batch whose stacks are lent.
use Rattle.profile_rows.specs.declared.batch.Row as lent
use Rattle.profile_rows.specs.Values.{Row}

-- the row that it is
abbrev pub shown_row : lent.Row → Row
shown_row row = record { stack = row.stack.now; weights = row.weights }
