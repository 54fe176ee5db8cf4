-- The plain answer to a query, over the rows that it keeps.
use Rattle.std.specs.Prelude.{ℕ, Bool, List, false, map, true}
use Rattle.profile_rows.specs.declared.weighted_stacks.WeightedStack.{WeightedStack}
use Rattle.folded_text.specs.FoldedText.{folded_text_of}
use Rattle.profile_rows.specs.Layout.{Rectangle, rectangles_of}
use Rattle.profile_rows.specs.Rows.{kept_rows, total_of}
use Rattle.profile_rows.specs.TopList.{Ranking, top_list_of}
use Rattle.profile_rows.specs.Values.{Row, rows_at}
use Rattle.profile_rows.specs.TopList.Ranking.{by_flat, by_cumulative}
use Rattle.flame_report.specs.declared.answer.Answer.{Answer}
use Rattle.flame_report.specs.declared.answer.Answer.TheVariants as answer
use Rattle.flame_report.specs.declared.answer.Flame.{Flame}
use Rattle.flame_report.specs.declared.answer.Rect.{Rect}
use Rattle.flame_report.specs.declared.answer.Top.{Top}
use Rattle.flame_report.specs.declared.query.Kind.{Kind}
use Rattle.flame_report.specs.declared.query.Kind.TheVariants as kind
use Rattle.flame_report.specs.declared.query.Query.{Query}
use Rattle.flame_report.specs.declared.query.Rank.{Rank}
use Rattle.flame_report.specs.declared.query.Rank.TheVariants.{Flat, Cum}

abbrev pub ranking_of : Rank → Ranking
ranking_of Flat = by_flat
ranking_of Cum = by_cumulative

abbrev pub top_of : Rank → ℕ → List WeightedStack → Top
top_of rank count rows = record { total = total_of rows; rows = top_list_of (ranking_of rank) count rows }

-- a rectangle, as an answer has it
abbrev pub rect_of : Rectangle → Rect
rect_of rectangle = record {
  depth = rectangle.depth;
  name = rectangle.name;
  x = rectangle.start;
  weight = rectangle.weight;
  left = rectangle.left;
  right = rectangle.right;
}

abbrev pub flame_of : ℕ → List WeightedStack → Flame
flame_of columns rows =
    record { total = total_of rows; columns = columns; rects = map rect_of (rectangles_of columns rows) }

-- what is asked for, of these rows
abbrev pub answer_by : Kind → List WeightedStack → Answer
answer_by kind.Total rows = answer.Total (total_of rows)
answer_by (kind.Top rank count) rows = answer.Top (top_of rank count rows)
answer_by (kind.Flame columns) rows = answer.Flame (flame_of columns rows)
answer_by kind.Folded rows = answer.Folded (folded_text_of rows)

-- whether an answer takes rows in the order of their stacks
abbrev pub needs_order : Kind → Bool
needs_order kind.Total = false
needs_order (kind.Top rank count) = false
needs_order (kind.Flame columns) = true
needs_order kind.Folded = true

-- the rows that a query keeps
abbrev pub kept_by : Query → List WeightedStack → List WeightedStack
kept_by query rows = kept_rows query.focus query.ignore rows

-- the plain answer to a query over rows
abbrev pub answer_of : List WeightedStack → Query → Answer
answer_of rows query = answer_by query.kind (kept_by query rows)

-- the plain answer over rows of several values: over the value that the query names
abbrev pub value_answer_of : List Row → Query → Answer
value_answer_of rows query = answer_of (rows_at query.value rows) query
