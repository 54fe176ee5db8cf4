-- Without a focus and an ignored name every row is kept.
use Rattle.std.proofs.Common.{rules}
use Rattle.profile_rows.proofs.Kept.{kept_rows-all}
use Rattle.flame_report.proofs.query.Query.keeps_all.Goals as goal

pub returns-then-is_none-clause-keeps : goal.returns-then-is_none-clause-keeps
returns-then-is_none-clause-keeps c =
    λ alone rows. kept_rows-all c.args.self.now.focus c.args.self.now.ignore rows (search rules) (search rules)
