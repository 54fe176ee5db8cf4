use Rattle.std.proofs.Common.{◌+◌, ◌-◌, ◌<◌, ◌≤◌, length, vec_len}
use Rattle.std.specs.Io.KnownBytes.{Consumes}
use Rattle.flame_program.proofs.streams.read_input.Given as goal

abbrev pub invariant-loop-input : goal.invariant-loop-input
invariant-loop-input g l = (length l.input.items ≤ l.limit) × (0 < vec_len l.buffer)
    × Consumes (g.R.Read.remaining l.fn.reader) (g.R.Read.remaining l.reader) l.input.items

abbrev pub decreases-loop-input : goal.decreases-loop-input
decreases-loop-input g l = l.limit + 1 - length l.input.items
