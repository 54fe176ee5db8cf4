use Rattle.std.proofs.Common.{sym, ◌∙◌, ap}
use Rattle.shown_versions.specs.declared.history_rule.Line.TheVariants as line
use Rattle.shown_versions.proofs.Steps.{begins_moves}
use Rattle.shown_versions.proofs.beginning.NewHistory.new.Goals as goal

pub compare_exchange-found-requires : goal.compare_exchange-found-requires
compare_exchange-found-requires c =
    let seen = c.open-lines.ensures in
    let word = c.tracked-word.ensures.0 in
    let book = seen.2 in
    let pen = c.no_pen-pen.ensures in
    let offer = c.plain-asked.ensures in
    let here = ap (λ w. w.book) word ∙ book in (
      ap (λ w. w.tracked) word,
      sym here,
      pen.0 ∙ sym here,
      offer.0,
      rw (ap (λ w. w.key) word, ap (λ n. n.key) seen.4, pen.1, offer.3)
          (begins_moves c.open-lines.result.0.log (line.Begins 0)),
    )
