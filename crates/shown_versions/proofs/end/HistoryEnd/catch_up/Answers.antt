use Rattle.std.proofs.Common.{sym, ◌≢◌, ◌∙◌, ℕ, List, ap, subst}
use mathlib.Core.List.{IsPrefix}
use Rattle.shown_versions.specs.Histories.{entries_of}
use Rattle.shown_versions.specs.declared.history_rule.Line.{Line}
use Rattle.shown_versions.specs.declared.history_rule.Line.TheVariants as line
use Rattle.shown_versions.proofs.Fronts.{prefix_trans}
use Rattle.shown_versions.proofs.Pens.{entries_prefix, whole_by}
use Rattle.shown_versions.proofs.Steps.{unused_moves}
use Rattle.shown_versions.proofs.end.HistoryEnd.catch_up.Goals as goal

pub compare_exchange-requires : goal.compare_exchange-requires
compare_exchange-requires g c =
    let inv = c.self.invariant in
    let word = inv.0 in
    let offer = c.plain-asked.ensures in
    let here = sym (ap (λ w. w.book) word) in (
      ap (λ w. w.tracked) word,
      c.tell.ensures.history ∙ (ap (λ s. s.book) c.again-both.ensures ∙ (inv.1 ∙ here)),
      inv.2 ∙ here,
      offer.0,
      rw (ap (λ w. w.key) word, offer.3)
          (unused_moves c.tell.new.lines.log c.self.inside.pen.nib (line.Begins 0) inv.3),
    )

pub returns-clause-began : goal.returns-clause-began
returns-clause-began g c =
    let inv = c.self.invariant in
    let mine = c.self.inside.lines.log in
    let other = c.front.inside.seen.log in
    let both = c.tell.new.lines.log in
    let last = c.compare_exchange.new.seen.log in
    let step = c.compare_exchange.ensures in
    let this : IsPrefix mine last = prefix_trans mine both last
    (subst (λ (l : List Line). IsPrefix l both) (ap (λ s. s.log) c.again-both.ensures) c.tell.ensures.begins) step.6 in
    let told : IsPrefix other (entries_of last) = prefix_trans other (entries_of both) (entries_of last)
    c.tell.ensures.told (entries_prefix both last step.6) in
    let all = whole_by (λ (pen : ℕ). pen ≢ c.self.inside.pen.nib.key) mine last this inv.5 step.7.1
    (λ unused. unused (sym inv.4)) in
    rw (← c.self.view_is, ← c.front.view_is)
    (subst (λ (l : List Line). IsPrefix other (entries_of l)) (sym all) told)
