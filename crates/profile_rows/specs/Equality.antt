-- `==` on rows and batches is equality of what they hold.
use Rattle.std.specs.Prelude.{Bool, ◌==◌, ◌&&◌}
use Rattle.std.specs.Cmp.Lexicographic.{pointwise, nat_list_eq_equiv, lists_equiv}
use Rattle.std.specs.Cmp.{IsEquivalence, and_equiv, on_equiv, nat_eq_equiv}
use Rattle.profile_rows.specs.declared.weighted_stacks.WeightedStack.{WeightedStack}
use Rattle.profile_rows.specs.Values.{BatchState, Row}

-- whether two rows have one stack and one weight
abbrev pub row_eq : WeightedStack → WeightedStack → Bool
row_eq a b = pointwise (pointwise ◌==◌) a.stack b.stack && (a.weight == b.weight)

pub row_eq-laws : IsEquivalence row_eq
row_eq-laws = and_equiv (on_equiv (λ row. row.stack) (lists_equiv nat_list_eq_equiv))
    (on_equiv (λ row. row.weight) nat_eq_equiv)

-- whether two rows have one stack and the same values
abbrev pub values_eq : Row → Row → Bool
values_eq a b = pointwise (pointwise ◌==◌) a.stack b.stack && pointwise ◌==◌ a.weights b.weights

pub values_eq-laws : IsEquivalence values_eq
values_eq-laws = and_equiv (on_equiv (λ row. row.stack) (lists_equiv nat_list_eq_equiv))
    (on_equiv (λ row. row.weights) nat_list_eq_equiv)

-- whether two batches have one width and the same rows in the same order
abbrev pub batch_eq : BatchState → BatchState → Bool
batch_eq a b = (a.width == b.width) && pointwise values_eq a.rows b.rows

pub batch_eq-laws : IsEquivalence batch_eq
batch_eq-laws = and_equiv (on_equiv (λ batch. batch.width) nat_eq_equiv)
    (on_equiv (λ batch. batch.rows) (lists_equiv values_eq-laws))
