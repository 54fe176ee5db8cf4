-- Top lists, as pprof's `-top` has them: the names that weigh most, flat or cumulative.
use Rattle.std.specs.Prelude.{ℕ, ◌≡◌, All, sum_by, if◌then◌else◌, List, [], ◌∷◌, ◌++◌, map, filter, take, nat_lt, codes}
use Rattle.std.specs.List.{flat_map}
use Rattle.std.specs.Fmt.{decimal}
use Rattle.std.specs.declared.cmp.Ordering.{Ordering}
use Rattle.std.specs.Ordering.{nat_cmp, ordering_then}
use Rattle.profile_rows.specs.declared.weighted_stacks.WeightedStack.{WeightedStack}
use Rattle.profile_rows.specs.declared.frame_totals.FrameTotal.{FrameTotal}
use Rattle.profile_rows.specs.declared.frame_totals.FrameTotals.{FrameTotals}
use Rattle.profile_rows.specs.Names.{name_cmp, is_same_name}
use Rattle.profile_rows.specs.Order.{in_order}
use Rattle.profile_rows.specs.Rows.{total_of, flat_weight_of, cumulative_weight_of}

-- which weight decides the order
pub data Ranking : Type 0 where
  by_flat : Ranking
  by_cumulative : Ranking

abbrev pub chosen_weight : Ranking → FrameTotal → ℕ
chosen_weight by_flat sums = sums.flat
chosen_weight by_cumulative sums = sums.cum

-- by falling chosen weight, and names of one weight by their bytes
abbrev pub top_cmp : Ranking → FrameTotal → FrameTotal → Ordering
top_cmp ranking a b =
    ordering_then (nat_cmp (chosen_weight ranking b) (chosen_weight ranking a)) (name_cmp a.name b.name)

-- the weights of a name among these rows
abbrev pub sums_at : List WeightedStack → List ℕ → FrameTotal
sums_at rows name = record { name = name; flat = flat_weight_of rows name; cum = cumulative_weight_of rows name }

-- the names in the rows, with their weights: those of cumulative weight above 0
abbrev pub sums_of : List WeightedStack → List FrameTotal
sums_of rows = filter (λ sums. nat_lt 0 sums.cum) (map (sums_at rows) (flat_map (λ row. row.stack) rows))

-- the first `count` names by the chosen weight, each once
abbrev pub top_list_of : Ranking → ℕ → List WeightedStack → List FrameTotal
top_list_of ranking count rows = take count (in_order (top_cmp ranking) (sums_of rows))

-- how often a name stands in a list of names with their weights
abbrev pub occurrences : List ℕ → List FrameTotal → ℕ
occurrences name list = sum_by (λ (sums : FrameTotal). if is_same_name name sums.name then 1 else 0) list

-- the list has each name of cumulative weight above 0 once, with its weights among the rows, and no other name, in any
-- order
pub record AreSumsOf (rows : List WeightedStack) (list : List FrameTotal) : Type 0 where
  pub weights : All (λ sums. sums ≡ sums_at rows sums.name) list
  pub once : (name : List ℕ)
      → occurrences name list ≡ (if nat_lt 0 (cumulative_weight_of rows name) then 1 else 0)

-- what the names of rows weigh, and what the rows weigh together
pub record AreTotalsOf (rows : List WeightedStack) (totals : FrameTotals) : Type 0 where
  pub sums : AreSumsOf rows totals.frames.items
  pub total : totals.total ≡ total_of rows

-- one line: the flat weight, the cumulative weight and the name
abbrev pub top_line : FrameTotal → List ℕ
top_line sums = decimal sums.flat ++ 32 ∷ decimal sums.cum ++ 32 ∷ sums.name ++ 10 ∷ []

-- a top list as text: the total, then a line for each name
abbrev pub top_text_of : ℕ → List FrameTotal → List ℕ
top_text_of total list = codes "total " ++ decimal total ++ 10 ∷ flat_map top_line list

-- the text of the top list of these rows
abbrev pub top_report_of : Ranking → ℕ → List WeightedStack → List ℕ
top_report_of ranking count rows = top_text_of (total_of rows) (top_list_of ranking count rows)
