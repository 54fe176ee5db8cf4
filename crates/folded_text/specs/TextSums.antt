-- What the rows of a text add up to.
use Rattle.std.specs.Prelude.{◌≡◌, List, [], Option, Some, None}
use Rattle.profile_rows.specs.declared.weighted_stacks.WeightedStack.{WeightedStack}
use Rattle.name_counts.specs.declared.counted_rows.CountedRows.{CountedRows}
use Rattle.name_counts.specs.Tallies.{HasCounted}
use Rattle.profile_rows.specs.StackTexts.{TextState}
use Rattle.ordered_rows.specs.SpelledRows.{spelled_rows}

-- the rows wait to be counted, or are counted
abbrev pub AreCounted : Option (List TextState) → CountedRows → List WeightedStack → Type 0
AreCounted (Some sums) counted rows = (rows ≡ spelled_rows sums) × HasCounted [] counted
AreCounted None counted rows = HasCounted rows counted
