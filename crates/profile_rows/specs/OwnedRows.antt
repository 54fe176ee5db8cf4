-- Rows of a batch that was taken apart.
use Rattle.profile_rows.specs.declared.batch.OwnedRow.{OwnedRow}
use Rattle.profile_rows.specs.Values.{Row}

-- the row that it is
abbrev pub plain_row : OwnedRow → Row
plain_row row = record { stack = row.stack; weights = row.weights }
