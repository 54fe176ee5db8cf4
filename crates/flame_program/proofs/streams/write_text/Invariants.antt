use Rattle.std.proofs.Common.{length}
use Rattle.flame_program.proofs.Parts.{IsWrittenSoFar}
use Rattle.flame_program.proofs.streams.write_text.Given as goal

abbrev pub invariant-loop-rest : goal.invariant-loop-rest
invariant-loop-rest g l = IsWrittenSoFar l.fn.text l.rest (g.W.Write.contents l.fn.writer) (g.W.Write.contents l.writer)

abbrev pub decreases-loop-rest : goal.decreases-loop-rest
decreases-loop-rest g l = length l.rest
