-- The lemmas by which the prover finds the proofs of a module's functions by itself.
use Rattle.std.proofs.lemmas.Grind.{common_steps}
use Rattle.std.proofs.lemmas.List.{length_push, take_all}
use Rattle.profile_rows.proofs.AnswerLaws.{aggregate_of-parts, aggregate_of-rows_of, kept_rows-same}
use Rattle.profile_rows.proofs.AnswerLaws.{rectangles_of-same, top_list_of-same_aggregate}
use Rattle.profile_rows.proofs.Cleaning.{IsName-cleaned, IsUtf8-cleaned, cleaned-name, cleaned_name_of-some, filled}
use Rattle.profile_rows.proofs.EntryLaws.{weight_where-rows_of, weight_where-same}
use Rattle.profile_rows.proofs.FourValues.{value_of-sums}
use Rattle.profile_rows.proofs.OwnedRows.{taken-step}
use Rattle.profile_rows.proofs.RowLaws.{aggregate_of-same, with_rows-append}
use Rattle.profile_rows.proofs.RowValues.{length-with_values, row_with, rows_at-with_values, seen-length}
use Rattle.profile_rows.proofs.RowValues.{seen-row, single-AreParts, with_values-single}

pub ruleset laws = (
  common_steps,
  aggregate_of-parts,
  aggregate_of-rows_of,
  aggregate_of-same,
  kept_rows-same,
  rectangles_of-same,
  top_list_of-same_aggregate,
  weight_where-rows_of,
  weight_where-same,
  with_rows-append,
)

pub ruleset batch = (
  common_steps,
  length-with_values,
  length_push,
  row_with,
  rows_at-with_values,
  seen-length,
  seen-row,
  single-AreParts,
  taken-step,
  with_values-single,
)

pub ruleset values = (common_steps, value_of-sums)

pub ruleset name = (common_steps, IsName-cleaned, IsUtf8-cleaned, cleaned-name, cleaned_name_of-some, filled, take_all)
