use Rattle.std.specs.Prelude.{List}
use Rattle.profile_rows.specs.declared.weighted_stacks.WeightedStack.{WeightedStack}
use Rattle.folded_text.proofs.Reading.{IsReadTo}
use Rattle.folded_text.proofs.taking.take_lines.Given as goal

-- the lines so far spell the rows that were taken
abbrev pub invariant-loop-index : goal.invariant-loop-index
invariant-loop-index g l =
    (so_far : List WeightedStack) × IsReadTo l.fn.text l.index-iterator.iter l.index-iterator.count so_far
    × g.T.LineTaker.is_of l.taker so_far
