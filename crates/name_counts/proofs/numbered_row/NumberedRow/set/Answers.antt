-- The frame stands there, or comes after those that are kept.
use Rattle.std.proofs.lemmas.Grind.{common_steps}
use Rattle.std.proofs.Common.{arith}
use Rattle.std.proofs.lemmas.Result.{MatchResult-weaker}
use Rattle.name_counts.proofs.NumberedRows.{set_frame}
use Rattle.name_counts.proofs.numbered_row.NumberedRow.set.Goals as goal

pub returns : goal.returns
returns c = MatchResult-weaker c.push.result c.push.ensures
    (λ done there. set_frame c.args.depth c.args.frame.now c.args.self.now _ _ c.requires c.keep.ensures there)
    (λ fault kept. grind (arith, common_steps))
