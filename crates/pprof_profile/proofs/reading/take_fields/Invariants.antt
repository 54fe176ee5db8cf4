use Rattle.std.proofs.Common.{length}
use Rattle.pprof_profile.specs.Forms.{table_of}
use Rattle.pprof_profile.specs.Reading.{IsReadSoFar}
use Rattle.pprof_profile.proofs.reading.take_fields.Given as goal

abbrev pub invariant-loop-read : goal.invariant-loop-read
invariant-loop-read g l =
    IsReadSoFar (table_of g.M.Message.form) l.fn.message l.fn.fields.bytes l.message l.fields.bytes

abbrev pub decreases-loop-read : goal.decreases-loop-read
decreases-loop-read g l = length l.fields.bytes
