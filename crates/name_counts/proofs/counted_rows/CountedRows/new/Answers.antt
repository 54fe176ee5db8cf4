-- No row is counted, and there is no name.
use Rattle.std.proofs.Common.{refl, ap}
use Rattle.name_counts.specs.NumberedRows.{NumberedFrames}
use Rattle.name_counts.proofs.NumberedRows.{none_counted}
use Rattle.name_counts.proofs.counted_rows.CountedRows.new.Goals as goal

pub returns-clause-counted : goal.returns-clause-counted
returns-clause-counted c =
    none_counted _ _ (ap (λ (row : NumberedFrames). row.texts) c.new.ensures) c.new-names.ensures.items refl
