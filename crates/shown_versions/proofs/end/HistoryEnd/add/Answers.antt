use Rattle.std.proofs.Common.{sym, ◌∙◌, ap, ap₂, arith, length-append, length, List, ◌∷◌, ◌++◌, ◌<◌, []}
use Rattle.op_book.specs.Operations.{PlainEntry}
use Rattle.shown_versions.specs.declared.history_rule.Line.{Line}
use Rattle.shown_versions.specs.Histories.{entries_of, entry_made, line_made, next_pen}
use Rattle.shown_versions.proofs.Pens.{entries_with, next_with}
use Rattle.shown_versions.proofs.Steps.{adds_moves}
use Rattle.shown_versions.proofs.end.HistoryEnd.add.Goals as goal

pub compare_exchange-requires : goal.compare_exchange-requires
compare_exchange-requires g c =
    let inv = c.self.invariant in
    let word = inv.0 in
    let offer = c.plain-asked.ensures in
    let here = sym (ap (λ w. w.book) word) in (
      ap (λ w. w.tracked) word,
      inv.1 ∙ here,
      inv.2 ∙ here,
      offer.0,
      rw (ap (λ w. w.key) word, offer.1, offer.3) (adds_moves c.self.inside.lines.log c.self.inside.pen.nib
          (line_made (record { ready = c.of.result; next = c.of-2.result })) inv.5 inv.3 inv.4),
    )

pub invariant_of-self : goal.invariant_of-self
invariant_of-self g c =
    let inv = c.self.invariant in
    let old = c.self.inside.lines.log in
    let made = line_made (record { ready = c.of.result; next = c.of-2.result }) in
    let entry = entry_made c.of.result.value in
    let step = c.compare_exchange.ensures in
    let log = step.7 ∙ ap (λ (m : Line). old ++ m ∷ []) c.plain-asked.ensures.1 in
    let longer : 0 < length c.compare_exchange.new.seen.log =
    omega (arith, ap length log, length-append old (made ∷ [])) in (
      inv.0,
      step.0 ∙ inv.1,
      c.new_pen-next.ensures.history ∙ inv.1,
      c.new_pen-next.ensures.right,
      sym (ap next_pen log ∙ (next_with old made ∙ ap (λ p. p.nib.key) c.of-2.ensures)),
      longer,
      omega (
        arith,
        inv.6,
        ap (λ (l : List Line). length (entries_of l)) log,
        ap length (entries_with old entry c.of-2.result.value.nib.key),
        length-append (entries_of old) (entry ∷ []),
      ),
    )

pub returns : goal.returns
returns g c =
    let old = c.self.inside.lines.log in
    let entry = entry_made c.of.result.value in
    let log = c.compare_exchange.ensures.7 ∙ ap (λ (m : Line). old ++ m ∷ []) c.plain-asked.ensures.1 in
    ap entries_of log ∙ (entries_with old entry c.of-2.result.value.nib.key
    ∙ ap₂ (λ (l : List PlainEntry) (e : PlainEntry). l ++ e ∷ []) c.self.view_is (ap entry_made c.of.ensures))
