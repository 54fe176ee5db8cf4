use Rattle.shown_versions.proofs.Pens.{entries_prefix}
use Rattle.shown_versions.proofs.reached.Reached.tell.Goals as goal

pub returns-clause-told : goal.returns-clause-told
returns-clause-told c =
    rw (← c.self.view_is) (entries_prefix c.self.inside.lines.log c.learn.new.self.log c.learn.ensures.3)
