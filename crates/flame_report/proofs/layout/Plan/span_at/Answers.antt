-- The path comes first with the row.
use Rattle.std.proofs.Common.{arith, ℕ, ◌<◌, List, [], length}
use Rattle.std.proofs.lemmas.List.Sums.{sum_by_more_le}
use Rattle.profile_rows.specs.declared.weighted_stacks.WeightedStack.{WeightedStack}
use Rattle.profile_rows.specs.Aggregate.{AreWeighty}
use Rattle.profile_rows.specs.Rows.{total_of}
use Rattle.std.proofs.lemmas.List.{length-take-le}
use Rattle.flame_report.proofs.RowSums.{new_path-first, path_at}
use Rattle.flame_report.proofs.layout.Plan.span_at.Goals as goal

pub group_weight-weight-requires-clause-first : goal.group_weight-weight-requires-clause-first
group_weight-weight-requires-clause-first c = new_path-first c.args.self.now.rows.now c.args.at c.args.depth
    c.requires.plan.ascending c.requires.at c.requires.new c.requires.depth

-- rows that weigh something weigh something together
some_weight : (rows : List WeightedStack) (at : ℕ) → AreWeighty rows → at < length rows → 0 < total_of rows
some_weight rows at weighty lt =
    let none : WeightedStack = record { stack = []; weight = 0 } in
    omega (arith, weighty at none lt, sum_by_more_le (λ (row : WeightedStack). row.weight) rows at none lt)

pub column-requires-clause-some : goal.column-requires-clause-some
column-requires-clause-some c = some_weight _ _ c.requires.plan.weighty c.requires.at

pub column-requires-2-clause-some : goal.column-requires-2-clause-some
column-requires-2-clause-some c = some_weight _ _ c.requires.plan.weighty c.requires.at

pub overflow_add-start : goal.overflow_add-start
overflow_add-start c = grind (arith, path_at c.args.self.now.rows.now c.args.at c.args.depth c.args.start)

pub column-requires-2-clause-within : goal.column-requires-2-clause-within
column-requires-2-clause-within c = grind (arith, path_at c.args.self.now.rows.now c.args.at c.args.depth c.args.start)

pub returns : goal.returns
returns c = grind (arith, length-take-le, path_at c.args.self.now.rows.now c.args.at c.args.depth c.args.start)
