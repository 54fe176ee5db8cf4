use Rattle.std.proofs.Common.{sym, ◌∙◌, ap}
use Rattle.shown_versions.specs.declared.history_rule.Line.TheVariants as line
use Rattle.shown_versions.proofs.Steps.{takes_moves}
use Rattle.shown_versions.proofs.beginning.new_pen.Goals as goal

pub compare_exchange-requires : goal.compare_exchange-requires
compare_exchange-requires c =
    let seen = c.again-lines.ensures in
    let word = c.requires in
    let pen = c.no_pen-pen.ensures in
    let offer = c.plain-asked.ensures in
    let here = ap (λ s. s.book) seen ∙ sym (ap (λ w. w.book) word) in (
      ap (λ w. w.tracked) word,
      here,
      pen.0 ∙ here,
      offer.0,
      rw (ap (λ w. w.key) word, pen.1, offer.3) (takes_moves c.again-lines.result.log (line.Begins 0)),
    )
