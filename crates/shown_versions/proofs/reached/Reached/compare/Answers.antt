use Rattle.std.proofs.Common.{List, ap, subst}
use mathlib.Core.List.{IsPrefix}
use Rattle.shown_versions.specs.Histories.{entries_of}
use Rattle.shown_versions.specs.declared.history_rule.Line.{Line}
use Rattle.shown_versions.proofs.Fronts.{prefix_shorter}
use Rattle.shown_versions.proofs.Pens.{entries_prefix}
use Rattle.shown_versions.proofs.reached.Reached.compare.Goals as goal

pub returns-clause-shorter : goal.returns-clause-shorter
returns-clause-shorter c =
    let mine = c.self.inside.lines.log in
    let others = c.other.inside.lines.log in
    let both = c.learn.new.self.log in
    let this : IsPrefix mine both =
    subst (λ (l : List Line). IsPrefix l both) (ap (λ s. s.log) c.again-both.ensures) c.learn.ensures.2 in
    rw (← c.self.view_is, ← c.other.view_is) (prefix_shorter (entries_of mine) (entries_of others) (entries_of both)
    (entries_prefix mine both this) (entries_prefix others both c.learn.ensures.3))

pub returns-clause-longer : goal.returns-clause-longer
returns-clause-longer c =
    let mine = c.self.inside.lines.log in
    let others = c.other.inside.lines.log in
    let both = c.learn.new.self.log in
    let this : IsPrefix mine both =
    subst (λ (l : List Line). IsPrefix l both) (ap (λ s. s.log) c.again-both.ensures) c.learn.ensures.2 in
    rw (← c.self.view_is, ← c.other.view_is) (prefix_shorter (entries_of others) (entries_of mine) (entries_of both)
    (entries_prefix others both c.learn.ensures.3) (entries_prefix mine both this))
