use Rattle.std.proofs.Common.{◌≡◌, ℕ, length, take}
use Rattle.name_counts.specs.Tallies.{numbers_counted, tally_at}
use Rattle.name_counts.proofs.tallies.count_names.Given as goal

-- each tally has the names so far
abbrev pub invariant-loop-number : goal.invariant-loop-number
invariant-loop-number l = record {
  many : length l.tallies.items ≡ length l.initial.tallies.items;
  each : (q : ℕ) → tally_at l.tallies.items q
      ≡ numbers_counted (take l.number-index l.numbers) l.row l.weight q (tally_at l.initial.tallies.items q);
}
