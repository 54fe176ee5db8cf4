-- No value so far passes the limit.
use Rattle.std.proofs.Common.{ℕ, ◌+◌, ◌<◌, ◌^◌}
use Rattle.profile_rows.specs.Values.{value_of}
use Rattle.profile_rows.proofs.values.first_heavy.Given as goal

abbrev pub invariant-loop-value : goal.invariant-loop-value
invariant-loop-value l = record {
  each : (below : ℕ) → below < l.value → value_of below l.totals + value_of below l.more < 2 ^ 63;
}
